-- A flag that is held as a bool, as the byte that the plan takes.
use Rattle.std.specs.Prelude.{ℕ, ◌≡◌, refl, Bool, true, false}
use Rattle.std.specs.Int.{from_bool}
use Rattle.std.proofs.Common.{◌∙◌}
use Rattle.subset.specs.Flag.{flag_of}

pub byte_is : (traced : Bool) (byte : ℕ) → byte ≡ from_bool traced → byte ≡ flag_of traced
byte_is traced byte e = e ∙ same traced
  where
    same : (t : Bool) → from_bool t ≡ flag_of t
    same true = refl
    same false = refl
