-- Laws of choices between tests: what a choice that holds, or that fails, says of each.
use Rattle.std.specs.Prelude.{◌≡◌, refl, Bool, true, false}
use Rattle.std.proofs.Common.{sym}
use Rattle.std.proofs.lemmas.Bool.{false≢true}
use Rattle.octets.specs.Pick.{pick}

-- a test that is not true is false
pub not_true : (t : Bool) → (t ≡ true → ⊥) → t ≡ false
not_true true h = absurd (h refl)
not_true false h = refl

-- the same either way
pub pick_same {ℓ} : {A : Type ℓ} (t : Bool) (a : A) → pick t a a ≡ a
pick_same true a = refl
pick_same false a = refl

-- both hold
pub both_hold : (t u : Bool) → pick t u false ≡ true → (t ≡ true) × (u ≡ true)
both_hold true u e = (refl, e)
both_hold false u e = absurd (false≢true e)

-- the first does not hold, the second does
pub other_holds : (t u : Bool) → pick t false u ≡ true → (t ≡ false) × (u ≡ true)
other_holds true u e = absurd (false≢true e)
other_holds false u e = (refl, e)

-- neither holds
pub none-holds : (t u : Bool) → pick t true u ≡ false → (t ≡ false) × (u ≡ false)
none-holds true u e = absurd (false≢true (sym e))
none-holds false u e = (refl, e)

-- where the first does not hold, not both do
pub first-fails : (t u : Bool) → t ≡ false → pick t u false ≡ false
first-fails true u e = absurd (false≢true (sym e))
first-fails false u e = refl
