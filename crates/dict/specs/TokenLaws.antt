-- Laws of what stands at a position of a DICT: a number or an operator ends further on, within the bytes.
use Rattle.std.specs.Prelude.{ℕ, ◌+◌, ◌-◌, ◌*◌, ◌/◌, ◌≤◌, ◌<◌, ◌≡◌, Bool, List, [], ◌∷◌, ltb, eqb, length, drop, Result, Ok, Err, Option, Some, None}
use Rattle.std.proofs.Math.Path.{refl}
use Rattle.std.proofs.Common.{sym, ap, ◌∙◌, subst, length-drop}
use Rattle.std.proofs.Math.Bool.{true, false}
use native.Mathlib.Omega.{arith}
use Rattle.std.proofs.Math.ListN.{get_or}
use borrow.Author.Tests.{ltb-true, ltb-false, eqb-false, lt-ltb, le-ltb, eq-eqb, ne_eqb}
use Rattle.octets.specs.Pick.{pick_ind}
use Rattle.octets.specs.Octets.{Octets, num_at}
use Rattle.decimal.specs.declared.Decimal.{Decimal}
use Rattle.decimal.specs.Real.{nibbles, Text, cut, wrong, text, before, text_of, form_of, value_of}
use Rattle.decimal.specs.Number.{Number, refused as refusedNumber, not_number, number, integer_at, twos_at, pair_at, placed, real_of, real_at, number_at, past_of}
use Rattle.dict.specs.Op.{esc, is_operator}
use Rattle.dict.specs.Dict.{Token, bad, operand, operator, operator_at, token_of, token_at}
use Rattle.dict.specs.Places.{token_told}
use Rattle.decimal.specs.TakenLaws.{length-nibbles}
use Rattle.dict.specs.declared.TokenAt.TheVariants.{Operand, Operator}
use Rattle.dict.specs.declared.TokenAt.{TokenAt}
use Rattle.refusal.specs.declared.Refusal.{Refusal}
use Rattle.refusal.specs.declared.Refusal.TheVariants.{Truncated, Malformed}

-- what holds of a number at a position
abbrev pub Further : List ℕ → ℕ → Number → Type 0
Further b at (refusedNumber n) = Unit
Further b at not_number = Unit
Further b at (number d next) = (at < next) × (next ≤ length b)

-- the text of a real has fewer nibbles than there are
abbrev Shorter : List ℕ → Text → Type 0
Shorter xs cut = Unit
Shorter xs wrong = Unit
Shorter xs (text ns) = length ns < length xs

one_more : (x : ℕ) (xs : List ℕ) (t : Text) → Shorter xs t → Shorter (x ∷ xs) (before x t)
one_more x xs cut h = tt
one_more x xs wrong h = tt
one_more x xs (text ns) h = omega arith

text_shorter : (xs : List ℕ) → Shorter xs (text_of xs)
unfolding text_of
text_shorter [] = tt
text_shorter (x ∷ xs) =
    pick_ind (Shorter (x ∷ xs)) (eqb x 15) _ _ (λ e. omega arith)
    (λ e. pick_ind (Shorter (x ∷ xs)) (eqb x 13) _ _ (λ f. tt) (λ f. one_more x xs (text_of xs) (text_shorter xs)))

module _ (b : List ℕ) (at : ℕ) (h : at < length b) where
  placed_further : (next : ℕ) (v : Result Decimal Refusal) → at < next → next ≤ length b → Further b at (placed next v)
  placed_further next (Err n) k l = tt
  placed_further next (Ok d) k l = (k, l)

  real_further : (t : Text) → Shorter (nibbles (drop (at + 1) b)) t → Further b at (real_of (at + 1) t)
  real_further cut s = tt
  real_further wrong s = tt
  real_further (text ns) s =
      let n : length (nibbles (drop (at + 1) b)) ≡ 2 * (length b - (at + 1)) = length-nibbles (drop (at + 1) b) ∙ rw length-drop in
      placed_further (at + 1 + (length ns / 2 + 1)) (value_of (length ns + 1) (form_of ns)) (omega arith) (omega arith)

  integer_further : (width : ℕ) (s : Bool) (n : ℕ) → 0 < width → Further b at (integer_at b at width s n)
  integer_further width s n p =
      pick_ind (Further b at) (ltb (length b) (at + width)) _ _ (λ e. tt)
      (λ e. let l = ltb-false (length b) (at + width) e in (omega arith, omega arith))

  twos_further : (width half v : ℕ) → 0 < width → Further b at (twos_at b at width half v)
  twos_further width half v p =
      pick_ind (Further b at) (ltb v half) _ _ (λ e. integer_further width false v p) (λ e. integer_further width true (half * 2 - v) p)

  pair_further : (v : ℕ) → Further b at (pair_at b at v)
  pair_further v =
      pick_ind (Further b at) (ltb v 251) _ _ (λ e. integer_further 2 false ((v - 247) * 256 + get_or b (at + 1) 0 + 108) (omega arith))
      (λ e. integer_further 2 true ((v - 251) * 256 + get_or b (at + 1) 0 + 108) (omega arith))

  pub further : Further b at (number_at b at)
  unfolding number_at real_at
  further =
      let v = get_or b at 0 in
      let P = Further b at in
      pick_ind P (eqb v 28) _ _ (λ e. twos_further 3 32768 (num_at b (at + 1) 2) (omega arith))
      (λ e. pick_ind P (eqb v 29) _ _ (λ f. twos_further 5 2147483648 (num_at b (at + 1) 4) (omega arith))
      (λ f. pick_ind P (eqb v 30) _ _ (λ g. real_further (text_of (nibbles (drop (at + 1) b))) (text_shorter (nibbles (drop (at + 1) b))))
      (λ g. pick_ind P (ltb v 32) _ _ (λ i. tt)
      (λ i. pick_ind P (ltb v 139) _ _ (λ j. integer_further 1 true (139 - v) (omega arith))
      (λ j. pick_ind P (ltb v 247) _ _ (λ k. integer_further 1 false (v - 139) (omega arith))
      (λ k. pick_ind P (ltb v 255) _ _ (λ l. pair_further v) (λ l. tt)))))))

-- what holds of a token at a position: an operand is a number, and both end further on
abbrev pub Passes : List ℕ → ℕ → Token → Type 0
Passes b at (bad n) = Unit
Passes b at (operand d next) = (number_at b at ≡ number d next) × (at < next) × (next ≤ length b)
Passes b at (operator op next) = (at < next) × (next ≤ length b)

module _ (b : List ℕ) (at : ℕ) (h : at < length b) where
  operator-passes : Passes b at (operator_at b at)
  unfolding operator_at
  operator-passes =
      pick_ind (Passes b at) (eqb (get_or b at 0) 12) _ _
      (λ e. pick_ind (Passes b at) (ltb (length b) (at + 2)) _ _ (λ f. tt)
      (λ f. let l = ltb-false (length b) (at + 2) f in (omega arith, omega arith)))
      (λ e. pick_ind (Passes b at) (ltb (get_or b at 0) 22) _ _ (λ f. (omega arith, omega arith)) (λ f. tt))

  number-passes : (q : Number) → number_at b at ≡ q → Further b at q → Passes b at (token_of b at q)
  number-passes (refusedNumber n) e f = tt
  number-passes not_number e f = operator-passes
  number-passes (number d next) e f = (e, f.0, f.1)

  pub token-passes : Passes b at (token_at b at)
  unfolding token_at
  token-passes = number-passes (number_at b at) refl (further b at h)

-- an operator that was read is one
abbrev Named : Token → Type 0
Named (bad n) = Unit
Named (operand d next) = Unit
Named (operator op next) = is_operator op ≡ true

pub escape_is : (e : ℕ) → e < 256 → is_operator (esc e) ≡ true
escape_is e h =
    simp (ne_eqb (3072 + e) 12 (λ q. omega arith), le-ltb (3072 + e) 22 (omega arith), le-ltb (3072 + e) 3072 (omega arith), lt-ltb (3072 + e) 3328 (omega arith))

pub byte_is : (v : ℕ) → (v ≡ 12 → ⊥) → v < 22 → is_operator v ≡ true
byte_is v n h = simp (ne_eqb v 12 n, lt-ltb v 22 h)

module _ (b : List ℕ) (at : ℕ) (o : Octets b) where
  operator-named : Named (operator_at b at)
  unfolding operator_at
  operator-named =
      pick_ind Named (eqb (get_or b at 0) 12) _ _
      (λ e. pick_ind Named (ltb (length b) (at + 2)) _ _ (λ f. tt) (λ f. escape_is (get_or b (at + 1) 0) (o (at + 1))))
      (λ e. pick_ind Named (ltb (get_or b at 0) 22) _ _ (λ f. byte_is (get_or b at 0) (eqb-false (get_or b at 0) 12 e) (ltb-true (get_or b at 0) 22 f)) (λ f. tt))

  number-named : (q : Number) → Named (token_of b at q)
  number-named (refusedNumber n) = tt
  number-named not_number = operator-named
  number-named (number d next) = tt

  token-named : Named (token_at b at)
  unfolding token_at
  token-named = number-named (number_at b at)

  pub operator_is : (op next : ℕ) → token_at b at ≡ operator op next → is_operator op ≡ true
  operator_is op next e = subst Named e token-named

-- ---- the code's answers

module _ (b : List ℕ) (at : ℕ) (h : at < length b) (v : ℕ) (e : v ≡ get_or b at 0) where
  pub operator-cut : v ≡ 12 → length b - at < 2 → Err Truncated ≡ token_told (operator_at b at)
  unfolding operator_at
  operator-cut f k = rw (← e, eq-eqb v 12 f, lt-ltb (length b) (at + 2) (omega arith))

  pub operator-escape : v ≡ 12 → 2 ≤ length b - at → (w : ℕ) → w ≡ get_or b (at + 1) 0 → Ok (Operator (3072 + w) (at + 2)) ≡ token_told (operator_at b at)
  unfolding operator_at
  operator-escape f k w g = rw (← e, ← g, eq-eqb v 12 f, le-ltb (length b) (at + 2) (omega arith))

  pub operator-byte : (v ≡ 12 → ⊥) → v < 22 → Ok (Operator v (at + 1)) ≡ token_told (operator_at b at)
  unfolding operator_at
  operator-byte f k = rw (← e, ne_eqb v 12 f, lt-ltb v 22 k)

  pub operator-none : (v ≡ 12 → ⊥) → 22 ≤ v → Err Malformed ≡ token_told (operator_at b at)
  unfolding operator_at
  operator-none f k = rw (← e, ne_eqb v 12 f, le-ltb v 22 k)

no : ◌≡◌ {A = ℕ} 0 1 → ⊥
no h = omega arith

told_refused : (b : List ℕ) (at : ℕ) (q : Number) (n : Refusal) → past_of q ≡ Err n → Err n ≡ token_told (token_of b at q)
told_refused b at (refusedNumber m) n e = let k : m ≡ n = cc in ap Err (sym k)
told_refused b at not_number n e = absurd (no cc)
told_refused b at (number d m) n e = absurd (no cc)

told_operand : (b : List ℕ) (at : ℕ) (q : Number) (next : ℕ) → past_of q ≡ Ok (Some next) → Ok (Operand next) ≡ token_told (token_of b at q)
told_operand b at (refusedNumber m) next e = absurd (no cc)
told_operand b at not_number next e = absurd (no cc)
told_operand b at (number d m) next e = let k : m ≡ next = cc in ap (λ (n : ℕ). Ok (Operand n)) (sym k)

told-operator : (b : List ℕ) (at : ℕ) (q : Number) → past_of q ≡ Ok None → token_told (operator_at b at) ≡ token_told (token_of b at q)
told-operator b at (refusedNumber m) e = absurd (no cc)
told-operator b at not_number e = refl
told-operator b at (number x m) e = absurd (no cc)

module _ (b : List ℕ) (at : ℕ) (q : Result (Option ℕ) Refusal) (e : q ≡ past_of (number_at b at)) where
  pub token_refused : (n : Refusal) → q ≡ Err n → Err n ≡ token_told (token_at b at)
  unfolding token_at
  token_refused n f = told_refused b at (number_at b at) n (sym e ∙ f)

  pub token_operand : (next : ℕ) → q ≡ Ok (Some next) → Ok (Operand next) ≡ token_told (token_at b at)
  unfolding token_at
  token_operand next f = told_operand b at (number_at b at) next (sym e ∙ f)

  pub token-operator : (r : Result TokenAt Refusal) → q ≡ Ok None → r ≡ token_told (operator_at b at) → r ≡ token_told (token_at b at)
  unfolding token_at
  token-operator r f g = g ∙ told-operator b at (number_at b at) (sym e ∙ f)
