-- Laws of the two-byte forms: the eight ranges are disjoint, they are exactly 108 to 1131 and -1131 to -108, and each form writes the integers
-- of its range.
use Rattle.std.specs.Prelude.{ℕ, zero, suc, ◌+◌, ◌-◌, ◌*◌, ◌/◌, ◌%◌, ◌≤◌, ◌<◌, ◌≡◌, refl, Bool, true, false, [], ◌∷◌, leb, ℤ, length}
use Rattle.std.proofs.Common.{sym, ap, ◌∙◌, arith, le-leb, leb-true, leb-false}
use Rattle.std.proofs.lemmas.Bool.{lt-leb}
use Rattle.octets.specs.Pick.{pick}
use Rattle.type2_number.specs.Number.{is_neg, mag}
use Rattle.type2_number.specs.Encoding.{integer_bytes}
use Rattle.type2_number.specs.EncodingLaws.{two}
use Rattle.type2_number.specs.Forms.{Form, two_bytes, form_at, In}

-- the form at place k among those of a sign writes the integers from 108 + 256 k to 363 + 256 k
pub form_bytes : (s : Bool) (v k : ℕ) → k < 4 → 108 + 256 * k ≤ v → v ≤ 363 + 256 * k
    → ((k + pick s 251 247) ∷ (v - (108 + 256 * k)) ∷ []) ≡ integer_bytes s v
form_bytes s v k few low high =
    let q : (v - 108) / 256 ≡ k = omega arith in
    let r : (v - 108) % 256 ≡ v - (108 + 256 * k) = omega arith in
    sym (two s v (omega arith) (omega arith) ∙ rw (q, r))

-- the form of a place by its sign and its place among those of that sign
pub record Placed (k : ℕ) (f : Form) : Type 0 where
  pub first : f.first ≡ k % 4 + pick (leb 4 k) 251 247
  pub sign : f.neg ≡ leb 4 k
  pub least : f.least ≡ 108 + 256 * (k % 4)
  pub most : f.most ≡ 363 + 256 * (k % 4)

placed : (k : ℕ) → k < 8 → Placed k (form_at k)
placed zero h = record { first = refl; sign = refl; least = refl; most = refl }
placed (suc zero) h = record { first = refl; sign = refl; least = refl; most = refl }
placed (suc (suc zero)) h = record { first = refl; sign = refl; least = refl; most = refl }
placed (suc (suc (suc zero))) h = record { first = refl; sign = refl; least = refl; most = refl }
placed (suc (suc (suc (suc zero)))) h = record { first = refl; sign = refl; least = refl; most = refl }
placed (suc (suc (suc (suc (suc zero))))) h = record { first = refl; sign = refl; least = refl; most = refl }
placed (suc (suc (suc (suc (suc (suc zero)))))) h = record { first = refl; sign = refl; least = refl; most = refl }
placed (suc (suc (suc (suc (suc (suc (suc zero))))))) h = record { first = refl; sign = refl; least = refl; most = refl }
placed (suc (suc (suc (suc (suc (suc (suc (suc k)))))))) h = absurd (omega arith)

-- two places of one sign
halves : (j k : ℕ) → leb 4 j ≡ leb 4 k → j < 8 → k < 8 → j % 4 ≡ k % 4 → j ≡ k
halves j k e a b m = by-test (leb 4 j) refl
  where
    by-test : (t : Bool) → leb 4 j ≡ t → j ≡ k
    by-test true x = let p = leb-true 4 j x in let q = leb-true 4 k (sym e ∙ x) in omega arith
    by-test false x = let p = leb-false 4 j x in let q = leb-false 4 k (sym e ∙ x) in omega arith

-- the ranges are disjoint
pub disjoint : (j k : ℕ) (z : ℤ) → j < length two_bytes → k < length two_bytes → In (form_at j) z → In (form_at k) z → j ≡ k
disjoint j k z a b x y =
    let p = placed j a in
    let q = placed k b in
    halves j k (sym p.sign ∙ sym x.sign ∙ y.sign ∙ q.sign) a b (omega (arith, p, q, x, y))

-- they hold no other integers than those of size 108 to 1131
pub within : (k : ℕ) (z : ℤ) → k < length two_bytes → In (form_at k) z → (108 ≤ mag z) × (mag z ≤ 1131)
within k z h x = let p = placed k h in (omega (arith, p, x), omega (arith, p, x))

-- and each of these
pub covered : (z : ℤ) → 108 ≤ mag z → mag z ≤ 1131 → (k : ℕ) × (k < length two_bytes) × In (form_at k) z
covered z low high = by_sign (is_neg z) refl
  where
    by_sign : (s : Bool) → is_neg z ≡ s → (k : ℕ) × (k < length two_bytes) × In (form_at k) z
    by_sign true e =
        let k = 4 + (mag z - 108) / 256 in
        let h : k < 8 = omega arith in
        let p = placed k h in
        (k, h, record { sign = e ∙ sym (p.sign ∙ le-leb 4 k (omega arith)); low = omega (arith, p); high = omega (arith, p) })
    by_sign false e =
        let k = (mag z - 108) / 256 in
        let h : k < 8 = omega arith in
        let p = placed k h in
        (k, h, record { sign = e ∙ sym (p.sign ∙ lt-leb 4 k (omega arith)); low = omega (arith, p); high = omega (arith, p) })

-- a form writes its first byte, and the size less its least
pub form_writes : (k : ℕ) (z : ℤ) → k < length two_bytes → In (form_at k) z
    → integer_bytes (is_neg z) (mag z) ≡ (form_at k).first ∷ (mag z - (form_at k).least) ∷ []
form_writes k z h x =
    let p = placed k h in
    let s : is_neg z ≡ leb 4 k = x.sign ∙ p.sign in
    let b = form_bytes (is_neg z) (mag z) (k % 4) (omega arith) (omega (arith, p, x)) (omega (arith, p, x)) in
    let f : k % 4 + pick (is_neg z) 251 247 ≡ (form_at k).first = ap (λ (t : Bool). k % 4 + pick t 251 247) s ∙ sym p.first in
    let l : mag z - (108 + 256 * (k % 4)) ≡ mag z - (form_at k).least = ap (λ (m : ℕ). mag z - m) (sym p.least) in
    sym b ∙ ap (λ (m : ℕ). m ∷ (mag z - (108 + 256 * (k % 4))) ∷ []) f ∙ ap (λ (m : ℕ). (form_at k).first ∷ m ∷ []) l
