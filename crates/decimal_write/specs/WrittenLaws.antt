-- The bytes of a number by cases, as the code takes them.
use Rattle.std.specs.Prelude.{ℕ, ◌+◌, ◌≤◌, ◌<◌, min, ◌≡◌, Bool, false, ◌∷◌, ltb, length}
use Rattle.std.proofs.Math.Path.{refl, ap}
use Rattle.std.proofs.Common.{◌∙◌, lt-ltb, le-ltb, eq-eqb, ne_eqb}
use native.Mathlib.Omega.{arith}
use Rattle.octets.specs.Pick.{pick}
use Rattle.decimal.specs.declared.Decimal.{Decimal}
use Rattle.decimal.specs.Values.{trunc_of}
use Rattle.decimal.specs.Written.{int_bytes, real_text, packed, real_bytes, number_bytes}

module _ (d : Decimal) where
  pub number_int : d.down ≡ 0 → trunc_of d < 2147483647 → number_bytes d ≡ int_bytes d.neg (trunc_of d)
  unfolding number_bytes
  number_int e h =
      ap (λ (t : Bool). pick (pick t (ltb (trunc_of d) 2147483647) false) (int_bytes d.neg (trunc_of d)) (real_bytes d)) (eq-eqb d.down 0 e)
      ∙ ap (λ (t : Bool). pick t (int_bytes d.neg (trunc_of d)) (real_bytes d)) (lt-ltb (trunc_of d) 2147483647 h)

  pub number_big : d.down ≡ 0 → 2147483647 ≤ trunc_of d → number_bytes d ≡ real_bytes d
  unfolding number_bytes
  number_big e h =
      ap (λ (t : Bool). pick (pick t (ltb (trunc_of d) 2147483647) false) (int_bytes d.neg (trunc_of d)) (real_bytes d)) (eq-eqb d.down 0 e)
      ∙ ap (λ (t : Bool). pick t (int_bytes d.neg (trunc_of d)) (real_bytes d)) (le-ltb (trunc_of d) 2147483647 h)

  pub number-part : (d.down ≡ 0 → ⊥) → number_bytes d ≡ real_bytes d
  unfolding number_bytes
  number-part e = ap (λ (t : Bool). pick (pick t (ltb (trunc_of d) 2147483647) false) (int_bytes d.neg (trunc_of d)) (real_bytes d)) (ne_eqb d.down 0 e)

  pub real-bytes : 30 ∷ packed (real_text d) ≡ real_bytes d
  unfolding real_bytes
  real-bytes = refl

  pub packed-length : (n : ℕ) → n ≡ length (real_bytes d) → n ≡ 1 + length (packed (real_text d))
  unfolding real_bytes
  packed-length n e = omega arith

-- by the fields of a decimal, and the size that is capped
module _ (d v : Decimal) (k : v ≡ d) where
  pub parted : (v.down ≡ 0 → ⊥) → number_bytes d ≡ real_bytes d
  parted e = rw (← k) (number-part v e)

  module _ (n : ℕ) (q : n ≡ min (trunc_of d) 4294967296) (e : v.down ≡ 0) where
    same : n ≡ min (trunc_of v) 4294967296
    same = rw k q

    pub sized_int : n < 2147483647 → number_bytes d ≡ int_bytes v.neg n
    sized_int h = let m : trunc_of v ≡ n = omega (arith, same) in rw (← k) (number_int v e (omega arith) ∙ ap (int_bytes v.neg) m)

    pub sized_big : 2147483647 ≤ n → number_bytes d ≡ real_bytes d
    sized_big h = rw (← k) (number_big v e (omega (arith, same)))
