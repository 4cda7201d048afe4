-- A number that was read: it is normalised and within the limits, and it stands within the bytes.
use Rattle.std.specs.Prelude.{ℕ, ◌+◌, ◌-◌, ◌*◌, ◌/◌, ◌^◌, ◌≤◌, ◌<◌, ◌≡◌, refl, ◌⊎◌, Bool, List, [], ◌∷◌, ltb, leb, eqb, length, drop, Some, Result, Ok, Err}
use Rattle.std.proofs.Common.{sym, ap, ◌∙◌, subst, inl, inr, eq-zero-or-pos, arith}
use Rattle.std.proofs.Math.Bool.{true, false}
use Rattle.std.proofs.Math.ListN.{get_or, length-drop}
use borrow.Author.Tests.{ltb-false, leb-false}
use Rattle.octets.specs.Pick.{pick, pick_ind}
use Rattle.octets.specs.Octets.{Octets, num_at}
use Rattle.octets.specs.OctetsLaws.{num-two, num-four}
use Rattle.decimal.specs.declared.Decimal.{Decimal}
use Rattle.decimal.specs.declared.NumberAt.{NumberAt}
use Rattle.decimal.specs.Decimal.{nought, zeros, stripped, scaled, normal, Normal}
use Rattle.decimal.specs.DecimalLaws.{stripped-le, zeros-below, normal-nought, normal_pos, normal-again}
use Rattle.decimal.specs.Real.{nibbles, Text, cut, wrong, text, before, text_of, Form, bad, form, form_of, limited, value_of}
use Rattle.decimal.specs.Number.{Number, refused, not_number, number, integer_at, twos_at, pair_at, placed, real_of, real_at, number_at, answer_of, Taken}
use Rattle.refusal.specs.declared.Refusal.{Refusal}
use Rattle.refusal.specs.declared.Refusal.TheVariants.{Truncated, Real}

-- ---- within the limits

no : ◌≡◌ {A = ℕ} 0 1 → ⊥
no h = omega arith

-- an integer of at most 15 digits
pub whole-normal : (s : Bool) (n : ℕ) → n < 10 ^ 15 → Normal (normal s n 0 0)
whole-normal s n h = go (eq-zero-or-pos n)
  where
    bounded : (d : Decimal) → normal s n 0 0 ≡ d → (d.digits < 10 ^ 15) × (d.up ≤ 30) × (d.down ≤ 30) → Normal (normal s n 0 0)
    bounded d e l =
        let q = subst (λ (c : Decimal). (c.digits < 10 ^ 15) × (c.up ≤ 30) × (c.down ≤ 30)) (sym e) l in
        record { same = normal-again s n 0 0 (normal s n 0 0) refl; few = q.0; high = q.1; low = q.2 }

    go : (n ≡ 0) ⊎ (0 < n) → Normal (normal s n 0 0)
    go (inl o) = bounded nought (ap (λ (m : ℕ). normal s m 0 0) o ∙ normal-nought s 0 0) (omega arith, omega arith, omega arith)
    go (inr p) =
        let z : zeros n < 15 = zeros-below n 15 p h in
        bounded (scaled s (stripped n) (0 + zeros n) 0) (normal_pos s n 0 0 p) (omega (arith, stripped-le n), omega arith, omega arith)

limits : (t u v : Bool) (d c : Decimal) → pick t (Err Real) (pick u (Err Real) (pick v (Err Real) (Ok d))) ≡ Ok c
    → (t ≡ false) × (u ≡ false) × (v ≡ false) × (d ≡ c)
limits true u v d c e = absurd (no cc)
limits false true v d c e = absurd (no cc)
limits false false true d c e = absurd (no cc)
limits false false false d c e = (refl, refl, refl, cc)

-- a real that was read
text-normal : (count : ℕ) (f : Form) (d : Decimal) → value_of count f ≡ Ok d → Normal d
unfolding value_of
text-normal count bad d e = absurd (no cc)
text-normal count (form s n f es e) d q = go (ltb 64 count) q
  where
    c : Decimal
    c = normal s n (pick es 0 e) (pick es (f + e) f)

    go : (t : Bool) → pick t (Err Real) (limited c) ≡ Ok d → Normal d
    go true w = absurd (no cc)
    go false w =
        let l = limits (leb (10 ^ 15) c.digits) (ltb 30 c.up) (ltb 30 c.down) c d w in
        subst Normal l.3
        (record {
          same = normal-again s n (pick es 0 e) (pick es (f + e) f) c refl;
          few = leb-false (10 ^ 15) c.digits l.0;
          high = ltb-false 30 c.up l.1;
          low = ltb-false 30 c.down l.2;
        })

-- ---- within the bytes

text_shorter : (xs ns : List ℕ) → text_of xs ≡ text ns → length ns < length xs
unfolding text_of
text_shorter [] ns e = absurd (no cc)
text_shorter (x ∷ xs) ns e = go (eqb x 15) (eqb x 13) (text_of xs) (text_shorter xs) e
  where
    go : (t u : Bool) (r : Text) → ((ms : List ℕ) → r ≡ text ms → length ms < length xs) → pick t (text []) (pick u wrong (before x r)) ≡ text ns → length ns < length (x ∷ xs)
    go true u r less q = let z : ns ≡ [] = cc in rw z (omega arith)
    go false true r less q = absurd (no cc)
    go false false cut less q = absurd (no cc)
    go false false wrong less q = absurd (no cc)
    go false false (text ms) less q = let z : ns ≡ x ∷ ms = cc in rw z (omega (arith, less ms refl))

-- a byte is two nibbles
pub length-nibbles : (bs : List ℕ) → length (nibbles bs) ≡ 2 * length bs
unfolding nibbles
length-nibbles [] = refl
length-nibbles (b ∷ bs) = omega (arith, length-nibbles bs)

module _ (b : List ℕ) (at : ℕ) where
  -- what holds of a number that stands there
  Sound : Number → Type 0
  Sound (refused n) = Unit
  Sound not_number = Unit
  Sound (number d next) = Taken b at d next

  -- where its bytes are not there an integer is refused, whatever it would be
  integer_sound : (width : ℕ) (s : Bool) (n : ℕ) → 0 < width → (at + width ≤ length b → n < 10 ^ 15) → Sound (integer_at b at width s n)
  unfolding Sound
  integer_sound width s n h k =
      pick_ind Sound (ltb (length b) (at + width)) (refused Truncated) (number (normal s n 0 0) (at + width)) (λ t. tt)
      (λ t. let w = ltb-false (length b) (at + width) t in record { normal = whole-normal s n (k w); past = omega arith; within = w })

  placed_sound : (next : ℕ) (v : Result Decimal Refusal) → at < next → next ≤ length b → ((d : Decimal) → v ≡ Ok d → Normal d) → Sound (placed next v)
  unfolding Sound
  placed_sound next (Err n) h k f = tt
  placed_sound next (Ok d) h k f = record { normal = f d refl; past = h; within = k }

  real_sound : (t : Text) → text_of (nibbles (drop (at + 1) b)) ≡ t → Sound (real_of (at + 1) t)
  unfolding Sound
  real_sound cut e = tt
  real_sound wrong e = tt
  real_sound (text ns) e =
      let l = text_shorter (nibbles (drop (at + 1) b)) ns e in
      placed_sound (at + 1 + (length ns / 2 + 1)) (value_of (length ns + 1) (form_of ns)) (omega arith)
      (omega (arith, length-nibbles (drop (at + 1) b), length-drop (at + 1) b)) (text-normal (length ns + 1) (form_of ns))

  pair_sound : (v : ℕ) → v < 256 → get_or b (at + 1) 0 < 256 → Sound (pair_at b at v)
  pair_sound v h k =
      pick_ind Sound (ltb v 251) (integer_at b at 2 false ((v - 247) * 256 + get_or b (at + 1) 0 + 108)) (integer_at b at 2 true ((v - 251) * 256 + get_or b (at + 1) 0 + 108))
      (λ t. integer_sound 2 false _ (omega arith) (λ w. omega arith)) (λ t. integer_sound 2 true _ (omega arith) (λ w. omega arith))

  twos_sound : (width half v : ℕ) → 0 < width → half ≤ 2147483648 → (at + width ≤ length b → v < 4294967296) → Sound (twos_at b at width half v)
  twos_sound width half v h k l =
      pick_ind Sound (ltb v half) (integer_at b at width false v) (integer_at b at width true (half * 2 - v))
      (λ t. integer_sound width false v h (λ w. omega (arith, l w))) (λ t. integer_sound width true (half * 2 - v) h (λ w. omega arith))

  number_sound : Octets b → at < length b → Sound (number_at b at)
  unfolding Sound number_at real_at
  number_sound o i =
      let v = get_or b at 0 in
      pick_ind Sound (eqb v 28) _ _
      (λ t. twos_sound 3 32768 (num_at b (at + 1) 2) (omega arith) (omega arith)
      (λ w. omega (arith, num-two b (at + 1) (omega arith), o (at + 1), o (at + 1 + 1))))
      (λ t. pick_ind Sound (eqb v 29) _ _
      (λ t. twos_sound 5 2147483648 (num_at b (at + 1) 4) (omega arith) (omega arith)
      (λ w. omega (arith, num-four b (at + 1) (omega arith), o (at + 1), o (at + 1 + 1), o (at + 1 + 2), o (at + 1 + 3))))
      (λ t. pick_ind Sound (eqb v 30) _ _ (λ t. real_sound (text_of (nibbles (drop (at + 1) b))) refl)
      (λ t. pick_ind Sound (ltb v 32) not_number _ (λ t. tt)
      (λ t. pick_ind Sound (ltb v 139) _ _ (λ t. integer_sound 1 true (139 - v) (omega arith) (λ w. omega arith))
      (λ t. pick_ind Sound (ltb v 247) _ _ (λ t. integer_sound 1 false (v - 139) (omega arith) (λ w. omega (arith, o at)))
      (λ t. pick_ind Sound (ltb v 255) (pair_at b at v) not_number (λ t. pair_sound v (o at) (o (at + 1))) (λ t. tt)))))))

-- a number that was read
pub number-taken : (b : List ℕ) (at : ℕ) (d : Decimal) (next : ℕ) → Octets b → at < length b → number_at b at ≡ number d next → Taken b at d next
unfolding Sound
number-taken b at d next o i e = subst (Sound b at) e (number_sound b at o i)

-- the same, by the code's answer
pub answer-number : (q : Number) (t : NumberAt) → Ok (Some t) ≡ answer_of q → q ≡ number t.value t.next
answer-number (refused n) t e = absurd (no cc)
answer-number not_number t e = absurd (no cc)
answer-number (number d next) t e =
    let k : record { value = d; next = next } ≡ t = cc in
    ap (λ (u : NumberAt). number u.value u.next) k
