-- The one choice between two values that the definitions use: tests stand in the order in which the code makes them.
use Rattle.std.specs.Prelude.{◌≡◌, refl, Bool, true, false}

-- the first where the test holds, the second where it does not
abbrev pub pick {ℓ} : {A : Type ℓ} → Bool → A → A → A
pick true a b = a
pick false a b = b

-- what holds of both, each where its test says, holds of the choice
pub pick_ind {ℓ κ} : {A : Type ℓ} (P : A → Type κ) (t : Bool) (a b : A) → (t ≡ true → P a) → (t ≡ false → P b) → P (pick t a b)
pick_ind P true a b f g = f refl
pick_ind P false a b f g = g refl
