-- The fields of a line (tools/oracle/README.md, 'Lines'): hexadecimal, an empty one `-`.
use Rattle.std.specs.Prelude.{ℕ, Bool, false, List, [], eqb, length, get_or, None, Option, Some}
use Rattle.octets.specs.Pick.{pick}
use Rattle.hexlines.specs.Hexlines.{hex_bytes, room_for}
use Rattle.strings.specs.Text.{same_text_lem}

-- is this an empty field?
unfoldable pub is_dash : List ℕ → Bool
is_dash text = pick (eqb (length text) 1) (eqb (get_or text 0 0) 45) false

-- the bytes of a field, if it is hexadecimal and they are no more than room
unfoldable pub field_bytes : ℕ → List ℕ → Option (List ℕ)
field_bytes room text = pick (is_dash text) (Some []) (room_for room 0 (hex_bytes text))

-- are both there, and the same?
abbrev pub both_same : Option (List ℕ) → Option (List ℕ) → Bool
both_same None b = false
both_same (Some x) None = false
both_same (Some x) (Some y) = same_text_lem x y
