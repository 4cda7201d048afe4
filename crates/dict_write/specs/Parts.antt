-- A DICT (TN5176, section 4) as a subset writes it, part by part (document 01, 'Layout'): entries copied or made, and offsets in the five-byte form; and the entry that each part is.
use Rattle.std.specs.Prelude.{ℕ, ◌<◌, ◌≡◌, true, List, [], ◌∷◌, ◌++◌}
use Rattle.decimal.specs.Decimal.{whole}
use Rattle.dict.specs.Op.{is_operator, private}
use Rattle.dict.specs.Dict.{Entry}
use Rattle.dict.specs.Proper.{Proper}
use Rattle.dict_write.specs.Written.{entry_bytes, offset_entry, private_entry}

-- an entry; an offset and its operator; Private with its size and offset
pub data Part : Type 0 where
  plain : Entry → Part
  offset : ℕ → ℕ → Part
  private_part : ℕ → ℕ → Part

-- as it is written
abbrev pub part_bytes : Part → List ℕ
part_bytes (plain e) = entry_bytes e.op e.operands
part_bytes (offset op value) = offset_entry op value
part_bytes (private_part size at) = private_entry size at

unfoldable pub parts_bytes : List Part → List ℕ
parts_bytes [] = []
parts_bytes (p ∷ ps) = part_bytes p ++ parts_bytes ps

-- the entry that it is
abbrev pub part_entry : Part → Entry
part_entry (plain e) = e
part_entry (offset op value) = record { op = op; operands = whole value ∷ [] }
part_entry (private_part size at) = record { op = private; operands = whole size ∷ whole at ∷ [] }

unfoldable pub parts_entries : List Part → List Entry
parts_entries [] = []
parts_entries (p ∷ ps) = part_entry p ∷ parts_entries ps

-- what the five-byte form holds, and an entry that a DICT can hold
abbrev pub Fits : Part → Type 0
Fits (plain e) = Proper e
Fits (offset op value) = (is_operator op ≡ true) × (value < 2147483648)
Fits (private_part size at) = (size < 2147483648) × (at < 2147483648)

unfoldable pub AllFit : List Part → Type 0
AllFit [] = Unit
AllFit (p ∷ ps) = Fits p × AllFit ps
