-- Laws of an entry read token by token, and of the entries one after the other: what is left after a token, after an entry.
use Prim.Native.Nat.{ℕ, zero, suc, ◌-◌, ◌≤◌, ◌<◌}
use Rattle.std.specs.Prelude.{◌≡◌, Bool, true, false, List, [], ◌∷◌, ltb, length}
use Rattle.std.proofs.Math.Path.{refl}
use Rattle.std.proofs.Common.{sym, ap, ◌∙◌, ltb-true, ltb-false, lt-ltb, le-ltb}
use native.Mathlib.Omega.{arith}
use Rattle.octets.specs.Pick.{pick_ind}
use Rattle.decimal.specs.declared.Decimal.{Decimal}
use Rattle.decimal.specs.Number.{number, number_at}
use Rattle.dict.specs.Dict.{Token, bad, operand, operator, token_at, Reading, stopped, got, after, onward, entry_from, entry_at, followed, readings_from, readings_at}
use Rattle.dict.specs.Places.{operands_at}
use Rattle.dict.specs.TokenLaws.{Passes, token-passes}
use Rattle.refusal.specs.declared.Refusal.TheVariants.{Malformed}

-- ---- an entry: enough tokens are enough

onward-same : (b : List ℕ) (at : ℕ) (t : Token) → Passes b at t → (f g : ℕ → Reading)
    → ((next : ℕ) → at < next → next ≤ length b → f next ≡ g next) → onward at t f ≡ onward at t g
onward-same b at (bad n) p f g h = refl
onward-same b at (operand d next) p f g h = ap (after d) (h next p.1 p.2)
onward-same b at (operator op next) p f g h = refl

module _ (b : List ℕ) where
  entry-over : (k at : ℕ) → length b ≤ at → entry_from k b at ≡ stopped Malformed
  unfolding entry_from
  entry-over zero at h = refl
  entry-over (suc k) at h = rw (le-ltb at (length b) h)

  entry-turn : (k at : ℕ) → at < length b → entry_from (suc k) b at ≡ onward at (token_at b at) (entry_from k b)
  unfolding entry_from
  entry-turn k at h = rw (lt-ltb at (length b) h)

  entry-same : (k j at : ℕ) → ((next : ℕ) → at < next → next ≤ length b → entry_from k b next ≡ entry_from j b next) → (t : Bool) → ltb at (length b) ≡ t
      → entry_from (suc k) b at ≡ entry_from (suc j) b at
  entry-same k j at f false e = let h = ltb-false at (length b) e in entry-over (suc k) at h ∙ sym (entry-over (suc j) at h)
  entry-same k j at f true e =
      let h = ltb-true at (length b) e in
      entry-turn k at h ∙ onward-same b at (token_at b at) (token-passes b at h) (entry_from k b) (entry_from j b) f ∙ sym (entry-turn j at h)

  entry_enough : (k j at : ℕ) → length b - at ≤ k → length b - at ≤ j → entry_from k b at ≡ entry_from j b at
  entry_enough zero j at p q = entry-over 0 at (omega arith) ∙ sym (entry-over j at (omega arith))
  entry_enough (suc k) zero at p q = entry-over (suc k) at (omega arith) ∙ sym (entry-over 0 at (omega arith))
  entry_enough (suc k) (suc j) at p q = entry-same k j at (λ next l m. entry_enough k j next (omega arith) (omega arith)) (ltb at (length b)) refl

  -- an entry by its first token
  pub entry_is : (at : ℕ) → at < length b → entry_at b at ≡ onward at (token_at b at) (entry_at b)
  unfolding entry_at
  entry_is at h = entry_enough (length b) (suc (length b)) at (omega arith) (omega arith) ∙ entry-turn (length b) at h

  pub entry-ends : (at : ℕ) → length b ≤ at → entry_at b at ≡ stopped Malformed
  unfolding entry_at
  entry-ends at h = entry-over (length b) at h

-- ---- what an entry is: its operands stand from there on, and it ends further on

pub record Stands (b : List ℕ) (at : ℕ) (ds : List Decimal) (next : ℕ) : Type 0 where
  pub here : operands_at (length ds) b at ≡ ds
  pub further : at < next
  pub inside : next ≤ length b

abbrev pub Entered : List ℕ → ℕ → Reading → Type 0
Entered b at (stopped n) = Unit
Entered b at (got op ds end next) = Stands b at ds next

module _ (b : List ℕ) where
  operands_more : (n at next : ℕ) (d : Decimal) → number_at b at ≡ number d next → operands_at (suc n) b at ≡ d ∷ operands_at n b next
  unfolding operands_at
  operands_more n at next d e = rw e

  after-entered : (at next : ℕ) (d : Decimal) → number_at b at ≡ number d next → at < next → (r : Reading) → Entered b next r → Entered b at (after d r)
  after-entered at next d e l (stopped n) h = tt
  after-entered at next d e l (got op ds end last) h =
      record {
        here = operands_more (length ds) at next d e ∙ ap (λ (l : List Decimal). d ∷ l) h.here;
        further = omega (arith, h.further);
        inside = h.inside;
      }

  onward-entered : (at : ℕ) (t : Token) → Passes b at t → (f : ℕ → Reading) → ((next : ℕ) → Entered b next (f next)) → Entered b at (onward at t f)
  unfolding operands_at
  onward-entered at (bad n) p f h = tt
  onward-entered at (operand d next) p f h = after-entered at next d p.0 p.1 (f next) (h next)
  onward-entered at (operator op next) p f h = record { here = refl; further = p.0; inside = p.1 }

  pub from-entered : (k at : ℕ) → Entered b at (entry_from k b at)
  unfolding entry_from
  from-entered zero at = tt
  from-entered (suc k) at =
      pick_ind (Entered b at) (ltb at (length b)) _ _
      (λ e. onward-entered at (token_at b at) (token-passes b at (ltb-true at (length b) e)) (entry_from k b) (from-entered k))
      (λ e. tt)

  pub entered : (at : ℕ) → Entered b at (entry_at b at)
  unfolding entry_at
  entered at = from-entered (length b) at

-- ---- entries one after the other: enough is enough

followed_same : (b : List ℕ) (at : ℕ) (r : Reading) → Entered b at r → (f g : ℕ → List Reading)
    → ((next : ℕ) → at < next → next ≤ length b → f next ≡ g next) → followed r f ≡ followed r g
followed_same b at (stopped n) p f g h = refl
followed_same b at (got op ds end next) p f g h = ap (λ (l : List Reading). got op ds end next ∷ l) (h next p.further p.inside)

module _ (b : List ℕ) where
  over : (k at : ℕ) → length b ≤ at → readings_from k b at ≡ []
  unfolding readings_from
  over zero at h = refl
  over (suc k) at h = rw (le-ltb at (length b) h)

  turn : (k at : ℕ) → at < length b → readings_from (suc k) b at ≡ followed (entry_at b at) (readings_from k b)
  unfolding readings_from
  turn k at h = rw (lt-ltb at (length b) h)

  same : (k j at : ℕ) → ((next : ℕ) → at < next → next ≤ length b → readings_from k b next ≡ readings_from j b next) → (t : Bool) → ltb at (length b) ≡ t
      → readings_from (suc k) b at ≡ readings_from (suc j) b at
  same k j at f false e = let h = ltb-false at (length b) e in over (suc k) at h ∙ sym (over (suc j) at h)
  same k j at f true e =
      let h = ltb-true at (length b) e in
      turn k at h ∙ followed_same b at (entry_at b at) (entered b at) (readings_from k b) (readings_from j b) f ∙ sym (turn j at h)

  enough : (k j at : ℕ) → length b - at ≤ k → length b - at ≤ j → readings_from k b at ≡ readings_from j b at
  enough zero j at p q = over 0 at (omega arith) ∙ sym (over j at (omega arith))
  enough (suc k) zero at p q = over (suc k) at (omega arith) ∙ sym (over 0 at (omega arith))
  enough (suc k) (suc j) at p q = same k j at (λ next l m. enough k j next (omega arith) (omega arith)) (ltb at (length b)) refl

  -- the entries by the first of them
  pub readings_are : (at : ℕ) → at < length b → readings_at b at ≡ followed (entry_at b at) (readings_at b)
  unfolding readings_at
  readings_are at h = enough (length b) (suc (length b)) at (omega arith) (omega arith) ∙ turn (length b) at h

  pub readings_end : (at : ℕ) → length b ≤ at → readings_at b at ≡ []
  unfolding readings_at
  readings_end at h = over (length b) at h
