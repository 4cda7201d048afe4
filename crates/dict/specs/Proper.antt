-- Entries that a DICT can hold (TN5176, section 4): an operator that there is, and numbers within the limits of document 01.
use Rattle.std.specs.Prelude.{◌≡◌, true, List, [], ◌∷◌}
use Rattle.decimal.specs.declared.Decimal.{Decimal}
use Rattle.decimal.specs.Decimal.{Normal}
use Rattle.dict.specs.Op.{is_operator}
use Rattle.dict.specs.Dict.{Entry}

-- each is a number that a DICT can hold
unfoldable pub AllNormal : List Decimal → Type 0
AllNormal [] = Unit
AllNormal (d ∷ ds) = Normal d × AllNormal ds

pub record Proper (e : Entry) : Type 0 where
  pub operator : is_operator e.op ≡ true
  pub numbers : AllNormal e.operands

unfoldable pub AllProper : List Entry → Type 0
AllProper [] = Unit
AllProper (e ∷ es) = Proper e × AllProper es
