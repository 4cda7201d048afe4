-- `number_at` by its cases: what the first byte and the bytes left say.
use Rattle.std.specs.Prelude.{◌≡◌, List, ℕ, ◌+◌, ◌-◌, ◌*◌, ◌≤◌, ◌<◌, length, get_or, ltb, eqb}
use Rattle.std.proofs.Common.{◌∙◌, arith}
use Rattle.std.proofs.Math.Decide.{dec_lt}
use Rattle.type2_number.specs.Answers.{number_of}
use Rattle.type2_number.specs.declared.Number.TheVariants.{Num, Cut, Operator}
use borrow.Author.Tests.{lt-ltb, le-ltb, eq-eqb, ne_eqb, ltb-true, ltb-false, eqb-false}
use Rattle.octets.specs.Pick.{pick_ind}
use Rattle.type2_number.specs.Number.{Read, cut, operator, number, taken, number_at, whole, fixed, sixteen, rounded}

module _ (s : List ℕ) (at : ℕ) where
  pub short : (n : ℕ) (z : lib.IntN.ℤ) → length s - at < n → taken s at n z ≡ cut
  short n z h = simp (lt-ltb (length s - at) n h)

  pub long : (n : ℕ) (z : lib.IntN.ℤ) → n ≤ length s - at → taken s at n z ≡ number (rounded z) (at + n)
  long n z h = simp (le-ltb (length s - at) n h)

  pub form_28 : get_or s at 0 ≡ 28 → number_at s at ≡ taken s at 3 (sixteen (get_or s (at + 1) 0 * 256 + get_or s (at + 2) 0))
  unfolding number_at
  form_28 h = simp (lt-ltb (get_or s at 0) 32 (omega arith), eq-eqb (get_or s at 0) 28 h)

  pub form_op : get_or s at 0 < 32 → (get_or s at 0 ≡ 28 → ⊥) → number_at s at ≡ operator
  unfolding number_at
  form_op h k = simp (lt-ltb (get_or s at 0) 32 h, ne_eqb (get_or s at 0) 28 k)

  pub form_1 : 32 ≤ get_or s at 0 → get_or s at 0 < 247 → number_at s at ≡ number (rounded (whole (get_or s at 0) 139)) (at + 1)
  unfolding number_at
  form_1 h k = simp (le-ltb (get_or s at 0) 32 h, lt-ltb (get_or s at 0) 247 k)

  pub form_up : 247 ≤ get_or s at 0 → get_or s at 0 < 251 → number_at s at ≡ taken s at 2 (whole ((get_or s at 0 - 247) * 256 + get_or s (at + 1) 0 + 108) 0)
  unfolding number_at
  form_up h k = simp (le-ltb (get_or s at 0) 32 (omega arith), le-ltb (get_or s at 0) 247 h, lt-ltb (get_or s at 0) 255 (omega arith), lt-ltb (get_or s at 0) 251 k)

  pub form_down : 251 ≤ get_or s at 0 → get_or s at 0 < 255 → number_at s at ≡ taken s at 2 (whole 0 ((get_or s at 0 - 251) * 256 + get_or s (at + 1) 0 + 108))
  unfolding number_at
  form_down h k = simp (le-ltb (get_or s at 0) 32 (omega arith), le-ltb (get_or s at 0) 247 (omega arith), lt-ltb (get_or s at 0) 255 k, le-ltb (get_or s at 0) 251 h)

  pub form_ff : 255 ≤ get_or s at 0 → number_at s at ≡ taken s at 5 (fixed (get_or s (at + 1) 0 * 256 + get_or s (at + 2) 0) (get_or s (at + 3) 0 * 256 + get_or s (at + 4) 0))
  unfolding number_at
  form_ff h = simp (le-ltb (get_or s at 0) 32 (omega arith), le-ltb (get_or s at 0) 247 (omega arith), le-ltb (get_or s at 0) 255 h)

  -- ---- the answers
  pub cut_28 : (v : ℕ) → v ≡ get_or s at 0 → v ≡ 28 → length s - at < 3 → Cut ≡ number_of (number_at s at)
  cut_28 v e h k = rw (form_28 (omega arith), short 3 (sixteen (get_or s (at + 1) 0 * 256 + get_or s (at + 2) 0)) k)

  pub got_28 : (v : ℕ) → v ≡ get_or s at 0 → v ≡ 28 → 3 ≤ length s - at → (r : lib.IntN.ℤ) → r ≡ rounded (sixteen (get_or s (at + 1) 0 * 256 + get_or s (at + 2) 0))
      → Num r (at + 3) ≡ number_of (number_at s at)
  got_28 v e h k r q = rw (form_28 (omega arith), long 3 (sixteen (get_or s (at + 1) 0 * 256 + get_or s (at + 2) 0)) k, q)

  pub got_op : (v : ℕ) → v ≡ get_or s at 0 → v < 32 → (v ≡ 28 → ⊥) → Operator ≡ number_of (number_at s at)
  got_op v e h k = rw (form_op (omega arith) (λ z. k (e ∙ z)))

  pub got_1 : (v : ℕ) → v ≡ get_or s at 0 → 32 ≤ v → v < 247 → (r : lib.IntN.ℤ) → r ≡ rounded (whole v 139) → Num r (at + 1) ≡ number_of (number_at s at)
  got_1 v e h k r q = rw (form_1 (omega arith) (omega arith), q, e)

  pub cut_2 : (v : ℕ) → v ≡ get_or s at 0 → 247 ≤ v → v < 255 → length s - at < 2 → Cut ≡ number_of (number_at s at)
  cut_2 v e h k l = go (dec_lt (get_or s at 0) 251)
    where
      go : Dec (get_or s at 0 < 251) → Cut ≡ number_of (number_at s at)
      go (yes p) = rw (form_up (omega arith) p, short 2 (whole ((get_or s at 0 - 247) * 256 + get_or s (at + 1) 0 + 108) 0) l)
      go (no p) = rw (form_down (omega arith) (omega arith), short 2 (whole 0 ((get_or s at 0 - 251) * 256 + get_or s (at + 1) 0 + 108)) l)

  pub got-up : (v w : ℕ) → v ≡ get_or s at 0 → w ≡ get_or s (at + 1) 0 → 247 ≤ v → v < 251 → 2 ≤ length s - at → (r : lib.IntN.ℤ) → r ≡ rounded (whole ((v - 247) * 256 + w + 108) 0)
      → Num r (at + 2) ≡ number_of (number_at s at)
  got-up v w e g h k l r q = rw (form_up (omega arith) (omega arith), long 2 (whole ((get_or s at 0 - 247) * 256 + get_or s (at + 1) 0 + 108) 0) l, q, e, g)

  pub got-down : (v w : ℕ) → v ≡ get_or s at 0 → w ≡ get_or s (at + 1) 0 → 251 ≤ v → v < 255 → 2 ≤ length s - at → (r : lib.IntN.ℤ) → r ≡ rounded (whole 0 ((v - 251) * 256 + w + 108))
      → Num r (at + 2) ≡ number_of (number_at s at)
  got-down v w e g h k l r q = rw (form_down (omega arith) (omega arith), long 2 (whole 0 ((get_or s at 0 - 251) * 256 + get_or s (at + 1) 0 + 108)) l, q, e, g)

  pub cut_5 : (v : ℕ) → v ≡ get_or s at 0 → 255 ≤ v → length s - at < 5 → Cut ≡ number_of (number_at s at)
  cut_5 v e h k = rw (form_ff (omega arith), short 5 (fixed (get_or s (at + 1) 0 * 256 + get_or s (at + 2) 0) (get_or s (at + 3) 0 * 256 + get_or s (at + 4) 0)) k)

  pub got_ff : (v a b : ℕ) → v ≡ get_or s at 0 → 255 ≤ v → 5 ≤ length s - at → a ≡ get_or s (at + 1) 0 * 256 + get_or s (at + 2) 0 → b ≡ get_or s (at + 3) 0 * 256 + get_or s (at + 4) 0
      → (r : lib.IntN.ℤ) → r ≡ rounded (fixed a b) → Num r (at + 5) ≡ number_of (number_at s at)
  got_ff v a b e h k f g r q =
      rw (form_ff (omega arith), long 5 (fixed (get_or s (at + 1) 0 * 256 + get_or s (at + 2) 0) (get_or s (at + 3) 0 * 256 + get_or s (at + 4) 0)) k, q, f, g)

-- ---- a number ends further on, and within the body

abbrev pub Further : List ℕ → ℕ → Read → Type 0
Further s at cut = Unit
Further s at operator = Unit
Further s at (number z n) = (at < n) × (n ≤ length s)

taken_further : (s : List ℕ) (at k : ℕ) (z : lib.IntN.ℤ) → at < length s → 0 < k → Further s at (taken s at k z)
taken_further s at k z h p =
    pick_ind (Further s at) (ltb (length s - at) k) cut (number (rounded z) (at + k)) (λ e. tt)
    (λ e. let l = ltb-false (length s - at) k e in omega arith)

pub further : (s : List ℕ) (at : ℕ) → at < length s → Further s at (number_at s at)
unfolding number_at
further s at h =
    pick_ind (Further s at) (ltb (get_or s at 0) 32) _ _
    (λ e. pick_ind (Further s at) (eqb (get_or s at 0) 28) _ operator (λ e. taken_further s at 3 (sixteen (get_or s (at + 1) 0 * 256 + get_or s (at + 2) 0)) h (omega arith)) (λ e. tt))
    (λ e. pick_ind (Further s at) (ltb (get_or s at 0) 247) (number (rounded (whole (get_or s at 0) 139)) (at + 1)) _ (λ e. omega arith)
    (λ e. pick_ind (Further s at) (ltb (get_or s at 0) 255) _ _
    (λ e. pick_ind (Further s at) (ltb (get_or s at 0) 251) _ _
    (λ e. taken_further s at 2 (whole ((get_or s at 0 - 247) * 256 + get_or s (at + 1) 0 + 108) 0) h (omega arith))
    (λ e. taken_further s at 2 (whole 0 ((get_or s at 0 - 251) * 256 + get_or s (at + 1) 0 + 108)) h (omega arith)))
    (λ e. taken_further s at 5 (fixed (get_or s (at + 1) 0 * 256 + get_or s (at + 2) 0) (get_or s (at + 3) 0 * 256 + get_or s (at + 4) 0)) h (omega arith))))

-- ---- a byte that begins no number is below 32 and is not 28

pub record OperatorByte (v : ℕ) : Type 0 where
  pub low : v < 32
  pub other : v ≡ 28 → ⊥

-- what follows if there is an operator
IfOperator : ℕ → Read → Type 0
IfOperator v q = q ≡ operator → OperatorByte v

cut_not : (v : ℕ) → IfOperator v cut
unfolding IfOperator
cut_not v e = absurd (let z : ◌≡◌ {A = ℕ} 0 1 = cc in (let y : ⊥ = omega arith in y))

number_not : (v : ℕ) (z : lib.IntN.ℤ) (n : ℕ) → IfOperator v (number z n)
unfolding IfOperator
number_not v z n e = absurd (let z : ◌≡◌ {A = ℕ} 0 1 = cc in (let y : ⊥ = omega arith in y))

taken_not : (v : ℕ) (s : List ℕ) (at k : ℕ) (z : lib.IntN.ℤ) → IfOperator v (taken s at k z)
taken_not v s at k z = pick_ind (IfOperator v) (ltb (length s - at) k) cut (number (rounded z) (at + k)) (λ e. cut_not v) (λ e. number_not v (rounded z) (at + k))

is_operator : (v : ℕ) → v < 32 → (v ≡ 28 → ⊥) → IfOperator v operator
unfolding IfOperator
is_operator v h k e = record { low = h; other = k }

if-operator : (s : List ℕ) (at : ℕ) → IfOperator (get_or s at 0) (number_at s at)
unfolding number_at
if-operator s at =
    let v = get_or s at 0 in
    pick_ind (IfOperator v) (ltb v 32) _ _
    (λ e. pick_ind (IfOperator v) (eqb v 28) _ operator (λ f. taken_not v s at 3 (sixteen (get_or s (at + 1) 0 * 256 + get_or s (at + 2) 0)))
    (λ f. is_operator v (ltb-true v 32 e) (eqb-false v 28 f)))
    (λ e. pick_ind (IfOperator v) (ltb v 247) (number (rounded (whole v 139)) (at + 1)) _ (λ f. number_not v (rounded (whole v 139)) (at + 1))
    (λ f. pick_ind (IfOperator v) (ltb v 255) _ _
    (λ g. pick_ind (IfOperator v) (ltb v 251) _ _
    (λ h. taken_not v s at 2 (whole ((v - 247) * 256 + get_or s (at + 1) 0 + 108) 0))
    (λ h. taken_not v s at 2 (whole 0 ((v - 251) * 256 + get_or s (at + 1) 0 + 108))))
    (λ g. taken_not v s at 5 (fixed (get_or s (at + 1) 0 * 256 + get_or s (at + 2) 0) (get_or s (at + 3) 0 * 256 + get_or s (at + 4) 0)))))

pub operator-byte : (s : List ℕ) (at : ℕ) → number_at s at ≡ operator → OperatorByte (get_or s at 0)
unfolding IfOperator
operator-byte s at e = if-operator s at e
