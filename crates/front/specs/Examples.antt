-- Worked example: the front of document 01's 'One sheet, whole', a subset of 53 bytes with the name 'A' and no string of its own.
use Rattle.std.specs.Prelude.{ℕ, ◌≡◌, refl, List, [], ◌∷◌}
use Rattle.octets.specs.Octets.{bytes_of}
use Rattle.octets.specs.Lists.{joined}
use Rattle.index.specs.Write.{total, size_for, ends, table_bytes, head_bytes, items_bytes, index_bytes}
use Rattle.front.specs.Front.{front_bytes}

-- its top DICT: charset, CharStrings and Private
sheet_top : List ℕ
sheet_top = 0x1d ∷ 0 ∷ 0 ∷ 0 ∷ 0x2a ∷ 0x0f ∷ 0x1d ∷ 0 ∷ 0 ∷ 0 ∷ 0x2d ∷ 0x11 ∷ 0x1d ∷ 0 ∷ 0 ∷ 0 ∷ 0 ∷ 0x1d ∷ 0 ∷ 0 ∷ 0 ∷ 0x35 ∷ 0x12 ∷ []

sheet : front_bytes 53 (0x41 ∷ []) sheet_top []
    ≡ 1 ∷ 0 ∷ 4 ∷ 1 ∷ 0 ∷ 1 ∷ 1 ∷ 1 ∷ 2 ∷ 0x41 ∷ 0 ∷ 1 ∷ 1 ∷ 1 ∷ 0x18 ∷ 0x1d ∷ 0 ∷ 0 ∷ 0 ∷ 0x2a ∷ 0x0f ∷ 0x1d ∷ 0 ∷ 0 ∷ 0 ∷ 0x2d ∷ 0x11
    ∷ 0x1d ∷ 0 ∷ 0 ∷ 0 ∷ 0 ∷ 0x1d ∷ 0 ∷ 0 ∷ 0 ∷ 0x35 ∷ 0x12 ∷ 0 ∷ 0 ∷ []
unfolding sheet_top index_bytes head_bytes items_bytes table_bytes ends joined size_for total bytes_of
sheet = refl
