-- Worked examples, computed.
use Rattle.std.specs.Prelude.{◌+◌, ◌≡◌, refl, [], ◌∷◌, drop, None, Some}
use Rattle.octets.specs.Lists.{before}
use Rattle.hexlines.specs.Hexlines.{hex_value_lem, octet_of, field_end_lem, is_hex_lem, spelt, hex_bytes}

-- `f794`
bytes : hex_bytes (0x66 ∷ 0x37 ∷ 0x39 ∷ 0x34 ∷ []) ≡ Some (0xf7 ∷ 0x94 ∷ [])
unfolding hex_bytes is_hex_lem spelt octet_of hex_value_lem
bytes = refl

-- an empty text
no_bytes : hex_bytes [] ≡ Some []
unfolding hex_bytes is_hex_lem spelt
no_bytes = refl

-- `f79`
odd : hex_bytes (0x66 ∷ 0x37 ∷ 0x39 ∷ []) ≡ None
unfolding hex_bytes is_hex_lem hex_value_lem
odd = refl

-- `F7`: upper case is none
upper : hex_bytes (0x46 ∷ 0x37 ∷ []) ≡ None
unfolding hex_bytes is_hex_lem hex_value_lem
upper = refl

-- the bytes next to the digits
edges : hex_value_lem 47 ∷ hex_value_lem 48 ∷ hex_value_lem 57 ∷ hex_value_lem 58 ∷ hex_value_lem 96 ∷ hex_value_lem 97 ∷ hex_value_lem 102 ∷ hex_value_lem 103 ∷ []
    ≡ None ∷ Some 0 ∷ Some 9 ∷ None ∷ None ∷ Some 10 ∷ Some 15 ∷ None ∷ []
unfolding hex_value_lem
edges = refl

-- `e 0`, a line feed, `e`: two lines, the first of two fields
first-line : before 10 (101 ∷ 32 ∷ 48 ∷ 10 ∷ 101 ∷ []) ≡ 3
unfolding before
first-line = refl

-- the last ends with the text
last_line : 4 + before 10 (drop 4 (101 ∷ 32 ∷ 48 ∷ 10 ∷ 101 ∷ [])) ≡ 5
unfolding before
last_line = refl

first_field : field_end_lem (101 ∷ 32 ∷ 48 ∷ 10 ∷ 101 ∷ []) 0 3 ≡ 1
unfolding field_end_lem before
first_field = refl

last-field : field_end_lem (101 ∷ 32 ∷ 48 ∷ 10 ∷ 101 ∷ []) 2 3 ≡ 3
unfolding field_end_lem before
last-field = refl
