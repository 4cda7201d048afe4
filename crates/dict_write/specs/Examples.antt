-- Worked examples, computed.
use Rattle.std.specs.Prelude.{ℕ, ◌≡◌, refl, true, false, List, [], ◌∷◌}
use Rattle.octets.specs.Octets.{bytes_of}
use Rattle.decimal.specs.declared.Decimal.{Decimal}
use Rattle.decimal.specs.Decimal.{nought}
use Rattle.decimal.specs.Values.{trunc_of}
use Rattle.decimal.specs.Written.{int5_bytes, int_bytes, digits_of, width_in, width_of, bare_text, real_text, packed, real_bytes, number_bytes}
use Rattle.dict.specs.Op.{esc}
use Rattle.dict.specs.Dict.{Entry}
use Rattle.dict_write.specs.Written.{op_bytes_lem, operands_bytes, entry_bytes, entries_bytes, offset_entry, private_entry, without, private_bytes}

-- a whole number below ten, and an entry
abbrev whole : ℕ → Decimal
whole n = record { neg = false; digits = n; up = 0; down = 0 }

abbrev entry : ℕ → List Decimal → Entry
entry op ds = record { op = op; operands = ds }

-- an entry copied in its shortest form, an escape, offsets in five bytes, and a Private DICT without its Subrs
written :
    (entry_bytes 5 (nought ∷ record { neg = true; digits = 108; up = 0; down = 0 } ∷ []) ≡ 0x8b ∷ 0xfb ∷ 0x00 ∷ 0x05 ∷ [])
    × (op_bytes_lem (esc 7) ≡ 0x0c ∷ 0x07 ∷ [])
    × (offset_entry 17 258 ≡ 0x1d ∷ 0x00 ∷ 0x00 ∷ 0x01 ∷ 0x02 ∷ 0x11 ∷ [])
    × (private_entry 1 2 ≡ 0x1d ∷ 0x00 ∷ 0x00 ∷ 0x00 ∷ 0x01 ∷ 0x1d ∷ 0x00 ∷ 0x00 ∷ 0x00 ∷ 0x02 ∷ 0x12 ∷ [])
    × (private_bytes (entry 20 (whole 1 ∷ []) ∷ entry 19 (whole 2 ∷ []) ∷ entry 20 (whole 3 ∷ []) ∷ []) ≡ 0x8c ∷ 0x14 ∷ 0x8e ∷ 0x14 ∷ [])
unfolding bytes_of int5_bytes int_bytes digits_of width_in width_of trunc_of bare_text real_text packed real_bytes number_bytes op_bytes_lem operands_bytes entry_bytes entries_bytes offset_entry private_entry without
written = (refl, refl, refl, refl, refl)
