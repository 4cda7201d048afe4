-- `number_at` by its cases: what the first byte and the bytes left say.
use Rattle.std.specs.Prelude.{ℕ, ◌+◌, ◌-◌, ◌*◌, ◌≤◌, ◌<◌, ◌≡◌, Bool, true, false, List, ltb, length, get_or, Result, Ok, Err, Option, None}
use Rattle.std.proofs.Common.{sym, ap, ◌∙◌, arith}
use borrow.Author.Tests.{lt-ltb, le-ltb, eq-eqb, ne_eqb}
use Rattle.octets.specs.Pick.{pick}
use Rattle.octets.specs.Octets.{num_at}
use Rattle.decimal.specs.Decimal.{normal}
use Rattle.decimal.specs.Number.{Number, refused, not_number, number, integer_at, twos_at, pair_at, real_at, number_at, a_number, answer_of}
use Rattle.decimal.specs.declared.NumberAt.{NumberAt}
use Rattle.refusal.specs.declared.Refusal.{Refusal}
use Rattle.refusal.specs.declared.Refusal.TheVariants.{Truncated}

module _ (b : List ℕ) (at : ℕ) where
  pub integer-cut : (width : ℕ) (s : Bool) (n : ℕ) → length b < at + width → integer_at b at width s n ≡ refused Truncated
  integer-cut width s n h = rw (lt-ltb (length b) (at + width) h)

  pub integer-got : (width : ℕ) (s : Bool) (n : ℕ) → at + width ≤ length b → integer_at b at width s n ≡ number (normal s n 0 0) (at + width)
  integer-got width s n h = rw (le-ltb (length b) (at + width) h)

  twos_cut : (width half v : ℕ) → length b < at + width → twos_at b at width half v ≡ refused Truncated
  twos_cut width half v h = both (ltb v half) (integer-cut width false v h) (integer-cut width true (half * 2 - v) h)
    where
      both : (t : Bool) {x y : Number} → x ≡ refused Truncated → y ≡ refused Truncated → pick t x y ≡ refused Truncated
      both true e f = e
      both false e f = f

  twos_got : (width half v next : ℕ) (r : Result (Option NumberAt) Refusal) → at + width ≤ length b
      → r ≡ pick (ltb v half) (a_number (normal false v 0 0) (at + width)) (a_number (normal true (half * 2 - v) 0 0) (at + width))
      → r ≡ answer_of (twos_at b at width half v)
  twos_got width half v next r h e = e ∙ both (ltb v half) (integer-got width false v h) (integer-got width true (half * 2 - v) h)
    where
      both : (t : Bool) {x y : Number} {d e : _} {n : ℕ} → x ≡ number d n → y ≡ number e n → pick t (a_number d n) (a_number e n) ≡ answer_of (pick t x y)
      both true e f = ap answer_of (sym e)
      both false e f = ap answer_of (sym f)

  -- ---- two bytes
  -- ---- by the first byte
  pub form_28 : get_or b at 0 ≡ 28 → number_at b at ≡ twos_at b at 3 32768 (num_at b (at + 1) 2)
  unfolding number_at
  form_28 e = rw (eq-eqb (get_or b at 0) 28 e)

  pub form_29 : get_or b at 0 ≡ 29 → number_at b at ≡ twos_at b at 5 2147483648 (num_at b (at + 1) 4)
  unfolding number_at
  form_29 e = rw (ne_eqb (get_or b at 0) 28 (λ q. omega arith), eq-eqb (get_or b at 0) 29 e)

  pub form_30 : get_or b at 0 ≡ 30 → number_at b at ≡ real_at b at
  unfolding number_at
  form_30 e = rw (ne_eqb (get_or b at 0) 28 (λ q. omega arith), ne_eqb (get_or b at 0) 29 (λ q. omega arith), eq-eqb (get_or b at 0) 30 e)

  -- no prefix byte
  plain : (get_or b at 0 ≡ 28 → ⊥) → (get_or b at 0 ≡ 29 → ⊥) → (get_or b at 0 ≡ 30 → ⊥)
      → number_at b at
      ≡ pick (ltb (get_or b at 0) 32) not_number
      (pick (ltb (get_or b at 0) 139) (integer_at b at 1 true (139 - get_or b at 0))
      (pick (ltb (get_or b at 0) 247) (integer_at b at 1 false (get_or b at 0 - 139))
      (pick (ltb (get_or b at 0) 255) (pair_at b at (get_or b at 0)) not_number)))
  unfolding number_at
  plain p q r = rw (ne_eqb (get_or b at 0) 28 p, ne_eqb (get_or b at 0) 29 q, ne_eqb (get_or b at 0) 30 r)

  pub form_none : (get_or b at 0 ≡ 28 → ⊥) → (get_or b at 0 ≡ 29 → ⊥) → (get_or b at 0 ≡ 30 → ⊥) → get_or b at 0 < 32 → number_at b at ≡ not_number
  form_none p q r h = plain p q r ∙ rw (lt-ltb (get_or b at 0) 32 h)

  pub form_below : 32 ≤ get_or b at 0 → get_or b at 0 < 139 → number_at b at ≡ integer_at b at 1 true (139 - get_or b at 0)
  form_below h k =
      let t = lt-ltb (get_or b at 0) 139 k in
      plain (λ q. omega arith) (λ q. omega arith) (λ q. omega arith) ∙ rw (le-ltb (get_or b at 0) 32 h, t)

  pub form_above : 139 ≤ get_or b at 0 → get_or b at 0 < 247 → number_at b at ≡ integer_at b at 1 false (get_or b at 0 - 139)
  form_above h k =
      plain (λ q. omega arith) (λ q. omega arith) (λ q. omega arith)
      ∙ rw (le-ltb (get_or b at 0) 32 (omega arith), le-ltb (get_or b at 0) 139 h, lt-ltb (get_or b at 0) 247 k)

  pub form_pair : 247 ≤ get_or b at 0 → get_or b at 0 < 255 → number_at b at ≡ pair_at b at (get_or b at 0)
  form_pair h k =
      plain (λ q. omega arith) (λ q. omega arith) (λ q. omega arith)
      ∙ rw (le-ltb (get_or b at 0) 32 (omega arith), le-ltb (get_or b at 0) 139 (omega arith), le-ltb (get_or b at 0) 247 h, lt-ltb (get_or b at 0) 255 k)

  pub form_high : 255 ≤ get_or b at 0 → number_at b at ≡ not_number
  form_high h =
      plain (λ q. omega arith) (λ q. omega arith) (λ q. omega arith)
      ∙ rw (le-ltb (get_or b at 0) 32 (omega arith), le-ltb (get_or b at 0) 139 (omega arith), le-ltb (get_or b at 0) 247 (omega arith), le-ltb (get_or b at 0) 255 h)

  -- ---- the answers
  module _ (v : ℕ) (e : v ≡ get_or b at 0) (i : at < length b) where
    pub cut_28 : v ≡ 28 → length b - at < 3 → Err Truncated ≡ answer_of (number_at b at)
    cut_28 h k = sym (ap answer_of (form_28 (omega arith) ∙ twos_cut 3 32768 (num_at b (at + 1) 2) (omega arith)))

    pub got_28 : (u : ℕ) (r : Result (Option NumberAt) Refusal) → v ≡ 28 → 3 ≤ length b - at → u ≡ num_at b (at + 1) 2
        → r ≡ pick (ltb u 32768) (a_number (normal false u 0 0) (at + 3)) (a_number (normal true (65536 - u) 0 0) (at + 3)) → r ≡ answer_of (number_at b at)
    got_28 u r h k f q = twos_got 3 32768 u 0 r (omega arith) q ∙ rw (f, form_28 (omega arith))

    pub cut_29 : v ≡ 29 → length b - at < 5 → Err Truncated ≡ answer_of (number_at b at)
    cut_29 h k = sym (ap answer_of (form_29 (omega arith) ∙ twos_cut 5 2147483648 (num_at b (at + 1) 4) (omega arith)))

    pub got_29 : (u : ℕ) (r : Result (Option NumberAt) Refusal) → v ≡ 29 → 5 ≤ length b - at → u ≡ num_at b (at + 1) 4
        → r ≡ pick (ltb u 2147483648) (a_number (normal false u 0 0) (at + 5)) (a_number (normal true (4294967296 - u) 0 0) (at + 5)) → r ≡ answer_of (number_at b at)
    got_29 u r h k f q = twos_got 5 2147483648 u 0 r (omega arith) q ∙ rw (f, form_29 (omega arith))

    pub got_30 : (r : Result (Option NumberAt) Refusal) → v ≡ 30 → r ≡ answer_of (real_at b at) → r ≡ answer_of (number_at b at)
    got_30 r h q = q ∙ rw (form_30 (omega arith))

    pub got-none : (v ≡ 28 → ⊥) → (v ≡ 29 → ⊥) → (v ≡ 30 → ⊥) → v < 32 → Ok None ≡ answer_of (number_at b at)
    got-none p q r h = rw (form_none (λ z. p (e ∙ z)) (λ z. q (e ∙ z)) (λ z. r (e ∙ z)) (omega arith))

    pub got-below : (r : Result (Option NumberAt) Refusal) → 32 ≤ v → v < 139 → r ≡ a_number (normal true (139 - v) 0 0) (at + 1) → r ≡ answer_of (number_at b at)
    got-below r h k q = q ∙ rw (form_below (omega arith) (omega arith), integer-got 1 true (139 - get_or b at 0) (omega arith), e)

    pub got-above : (r : Result (Option NumberAt) Refusal) → 139 ≤ v → v < 247 → r ≡ a_number (normal false (v - 139) 0 0) (at + 1) → r ≡ answer_of (number_at b at)
    got-above r h k q = q ∙ rw (form_above (omega arith) (omega arith), integer-got 1 false (get_or b at 0 - 139) (omega arith), e)

    pub got-pair : (r : Result (Option NumberAt) Refusal) → 247 ≤ v → v < 255 → r ≡ answer_of (pair_at b at v) → r ≡ answer_of (number_at b at)
    got-pair r h k q = q ∙ rw (form_pair (omega arith) (omega arith), e)

    pub got-high : 255 ≤ v → Ok None ≡ answer_of (number_at b at)
    got-high h = rw (form_high (omega arith))
