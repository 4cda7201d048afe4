-- Proofs by a test on two numbers.
use Rattle.std.specs.Prelude.{ℕ, ◌≤◌, ◌<◌, ◌≡◌, refl, Bool, true, false, ltb, eqb}
use Rattle.std.proofs.Common.{eqb-true, ltb-true, ltb-false}
use Rattle.std.proofs.lemmas.Bool.{eqb-false}

-- by whether two numbers are equal
pub by_number : {P : Type 0} (m k : ℕ) → (m ≡ k → P) → ((m ≡ k → ⊥) → P) → P
by_number {P} m k f g = by (eqb m k) refl
  where
    by : (t : Bool) → eqb m k ≡ t → P
    by true e = f (eqb-true m k e)
    by false e = g (eqb-false m k e)

-- by whether a number is below another
pub by_order : {P : Type 0} (m k : ℕ) → (m < k → P) → (k ≤ m → P) → P
by_order {P} m k f g = by (ltb m k) refl
  where
    by : (t : Bool) → ltb m k ≡ t → P
    by true e = f (ltb-true m k e)
    by false e = g (ltb-false m k e)
