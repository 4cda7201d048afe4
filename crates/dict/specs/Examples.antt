-- Worked examples, computed: each point of document 01 ('Corners in mod.rs') on DICT entries, and each refusal.
use Rattle.std.specs.Prelude.{ℕ, ◌≡◌, refl, true, false, List, [], ◌∷◌, None, Some, Ok, Err}
use Rattle.octets.specs.Octets.{be, num_at}
use Rattle.decimal.specs.declared.Decimal.{Decimal}
use Rattle.decimal.specs.Decimal.{nought, zeros_of, zeros, stripped, normal}
use Rattle.decimal.specs.Real.{nibbles, text_of, exp_digits, exponent, mantissa, form_of, value_of}
use Rattle.decimal.specs.Number.{real_at, number_at}
use Rattle.decimal.specs.Values.{trunc_of}
use Rattle.dict.specs.Op.{esc, paint_type}
use Rattle.dict.specs.Dict.{Entry, operator_at, token_at, entry_from, entry_at, readings_from, readings_at, gathered, dict_of}
use Rattle.dict.specs.Lookup.{operands, last_from, last_of, one_of, offset_in, private_in, id_in, cid_keyed, ros_in, cid_count_in, stroked_in, charstring_type_in, private_there, a_ros}
use Rattle.dict.specs.Places.{listed, entries_of, last_place, place_of, operands_at, found_at}
use Rattle.refusal.specs.declared.Refusal.TheVariants.{Truncated, Malformed, Unsupported, Real}

-- a whole number below ten, and an entry
abbrev whole : ℕ → Decimal
whole n = record { neg = false; digits = n; up = 0; down = 0 }

abbrev entry : ℕ → List Decimal → Entry
entry op ds = record { op = op; operands = ds }

-- an empty DICT; CharStrings 0; an escape; two entries
read :
    (dict_of [] ≡ Ok [])
    × (dict_of (0x8b ∷ 0x11 ∷ []) ≡ Ok (entry 17 (nought ∷ []) ∷ []))
    × (dict_of (0x8d ∷ 0x0c ∷ 0x06 ∷ []) ≡ Ok (entry (esc 6) (whole 2 ∷ []) ∷ []))
    × (dict_of (0x15 ∷ 0x8c ∷ 0x8d ∷ 0x12 ∷ []) ≡ Ok (entry 21 [] ∷ entry 18 (whole 1 ∷ whole 2 ∷ []) ∷ []))
unfolding be num_at zeros_of zeros stripped normal nibbles text_of exp_digits exponent mantissa form_of value_of real_at number_at
    operator_at token_at entry_from entry_at readings_from readings_at gathered dict_of
read = (refl, refl, refl, refl)

-- operands left over; 12 at the end; the bytes 22, 27, 31 and 255; a number cut off; a real past the limits; the first refusal counts
refusals :
    (dict_of (0x8b ∷ []) ≡ Err Malformed)
    × (dict_of (0x8b ∷ 0x11 ∷ 0x8b ∷ []) ≡ Err Malformed)
    × (dict_of (0x8b ∷ 0x0c ∷ []) ≡ Err Truncated)
    × (dict_of (0x0c ∷ []) ≡ Err Truncated)
    × (dict_of (0x16 ∷ []) ≡ Err Malformed)
    × (dict_of (0x1b ∷ []) ≡ Err Malformed)
    × (dict_of (0x1f ∷ []) ≡ Err Malformed)
    × (dict_of (0xff ∷ []) ≡ Err Malformed)
    × (dict_of (0x1c ∷ 0x00 ∷ []) ≡ Err Truncated)
    × (dict_of (0x1e ∷ 0x1b ∷ 0x31 ∷ 0xff ∷ 0x11 ∷ []) ≡ Err Real)
    × (dict_of (0x8b ∷ 0x11 ∷ 0x1e ∷ 0xaf ∷ 0x16 ∷ []) ≡ Err Malformed)
    × (dict_of (0x1e ∷ 0x1b ∷ 0x31 ∷ 0xff ∷ 0x1d ∷ []) ≡ Err Real)
unfolding be num_at zeros_of zeros stripped normal nibbles text_of exp_digits exponent mantissa form_of value_of real_at number_at
    operator_at token_at entry_from entry_at readings_from readings_at gathered dict_of
refusals = (refl, refl, refl, refl, refl, refl, refl, refl, refl, refl, refl, refl)

-- CharStrings 1, then 2: the last counts
twice : List Entry
twice = entry 17 (whole 1 ∷ []) ∷ entry 15 [] ∷ entry 17 (whole 2 ∷ []) ∷ []

-- the last entry, also where it is the worse one; two operands or none where one is wanted are absent; an offset must be whole
offsets :
    (offset_in 17 twice ≡ Ok (Some 2))
    × (offset_in 15 twice ≡ Ok None)
    × (offset_in 16 twice ≡ Ok None)
    × (one_of 5 (entry 5 (whole 1 ∷ whole 2 ∷ []) ∷ []) ≡ None)
    × (last_of 5 (entry 5 (whole 1 ∷ whole 2 ∷ []) ∷ []) ≡ operands (whole 1 ∷ whole 2 ∷ []))
    × (one_of 5 (entry 5 (whole 1 ∷ []) ∷ entry 5 [] ∷ []) ≡ None)
    × (offset_in 17 (entry 17 (record { neg = false; digits = 15; up = 0; down = 1 } ∷ []) ∷ []) ≡ Err Malformed)
    × (offset_in 17 (entry 17 (record { neg = true; digits = 1; up = 0; down = 0 } ∷ []) ∷ []) ≡ Err Malformed)
unfolding trunc_of last_from last_of twice
offsets = (refl, refl, refl, refl, refl, refl, refl, refl)

-- Private: -0.25 is malformed, 0.9 is 0, one operand or three are malformed
privates :
    (private_in [] ≡ Ok None)
    × (private_in (entry 18 (whole 1 ∷ whole 2 ∷ []) ∷ []) ≡ private_there 1 2)
    × (private_in (entry 18 (record { neg = true; digits = 25; up = 0; down = 2 } ∷ whole 2 ∷ []) ∷ []) ≡ Err Malformed)
    × (private_in (entry 18 (whole 2 ∷ record { neg = true; digits = 25; up = 0; down = 2 } ∷ []) ∷ []) ≡ Err Malformed)
    × (private_in (entry 18 (record { neg = false; digits = 9; up = 0; down = 1 } ∷ whole 2 ∷ []) ∷ []) ≡ private_there 0 2)
    × (private_in (entry 18 (whole 2 ∷ []) ∷ []) ≡ Err Malformed)
    × (private_in (entry 18 (whole 2 ∷ whole 2 ∷ whole 2 ∷ []) ∷ []) ≡ Err Malformed)
unfolding trunc_of last_from last_of
privates = (refl, refl, refl, refl, refl, refl, refl)

-- Notice -0.5 is the id 0, and 65536 is none; ROS of two operands keys the font and is no ROS; CIDCount; CharstringType 1
others :
    (id_in 1 (entry 1 (record { neg = true; digits = 5; up = 0; down = 1 } ∷ []) ∷ []) ≡ Some 0)
    × (id_in 1 (entry 1 (record { neg = false; digits = 65536; up = 0; down = 0 } ∷ []) ∷ []) ≡ None)
    × (ros_in (entry (esc 30) (whole 1 ∷ whole 2 ∷ []) ∷ []) ≡ None)
    × (cid_keyed (entry (esc 30) (whole 1 ∷ whole 2 ∷ []) ∷ []) ≡ true)
    × (cid_keyed twice ≡ false)
    × (ros_in (entry (esc 30) (whole 1 ∷ whole 2 ∷ record { neg = true; digits = 3; up = 0; down = 0 } ∷ []) ∷ []) ≡ a_ros 1 2 (record { neg = true; size = 3 }))
    × (cid_count_in twice ≡ 8720)
    × (cid_count_in (entry (esc 34) (whole 7 ∷ []) ∷ []) ≡ 7)
    × (cid_count_in (entry (esc 34) (whole 7 ∷ whole 7 ∷ []) ∷ []) ≡ 8720)
    × (charstring_type_in twice ≡ Ok tt)
    × (charstring_type_in (entry (esc 6) (whole 2 ∷ []) ∷ []) ≡ Ok tt)
    × (charstring_type_in (entry (esc 6) (whole 1 ∷ []) ∷ []) ≡ Err Unsupported)
unfolding trunc_of last_from last_of twice
others = (refl, refl, refl, refl, refl, refl, refl, refl, refl, refl, refl, refl)

-- PaintType (document 02, Wish 11): absent, 0, 1, 0.5 and -1; two operands or none; the last of two counts; StrokeWidth alone; and as bytes
-- 1, minus zero and 0.0
stroked :
    (stroked_in [] ≡ false)
    × (stroked_in (entry paint_type (nought ∷ []) ∷ []) ≡ false)
    × (stroked_in (entry paint_type (whole 1 ∷ []) ∷ []) ≡ true)
    × (stroked_in (entry paint_type (record { neg = false; digits = 5; up = 0; down = 1 } ∷ []) ∷ []) ≡ true)
    × (stroked_in (entry paint_type (record { neg = true; digits = 1; up = 0; down = 0 } ∷ []) ∷ []) ≡ true)
    × (stroked_in (entry paint_type (whole 1 ∷ whole 1 ∷ []) ∷ []) ≡ false)
    × (stroked_in (entry paint_type [] ∷ []) ≡ false)
    × (stroked_in (entry paint_type (whole 1 ∷ []) ∷ entry paint_type (nought ∷ []) ∷ []) ≡ false)
    × (stroked_in (entry paint_type (nought ∷ []) ∷ entry paint_type (whole 1 ∷ []) ∷ []) ≡ true)
    × (stroked_in (entry (esc 8) (whole 1 ∷ []) ∷ []) ≡ false)
    × (stroked_in (entries_of (0x8c ∷ 0x0c ∷ 0x05 ∷ [])) ≡ true)
    × (stroked_in (entries_of (0x1e ∷ 0xe0 ∷ 0xff ∷ 0x0c ∷ 0x05 ∷ [])) ≡ false)
    × (stroked_in (entries_of (0x1e ∷ 0x0a ∷ 0x0f ∷ 0x0c ∷ 0x05 ∷ [])) ≡ false)
unfolding be num_at zeros_of zeros stripped normal nibbles text_of exp_digits exponent mantissa form_of value_of real_at number_at
    operator_at token_at entry_from entry_at readings_from readings_at gathered dict_of listed last_from last_of
stroked = (refl, refl, refl, refl, refl, refl, refl, refl, refl, refl, refl, refl, refl)

-- where the last CharStrings stands in two, and the operand there
places :
    (place_of 17 (0x8c ∷ 0x11 ∷ 0x1c ∷ 0x01 ∷ 0x00 ∷ 0x11 ∷ []) ≡ found_at 2 1)
    × (place_of 18 (0x8c ∷ 0x11 ∷ []) ≡ None)
    × (operands_at 1 (0x8c ∷ 0x11 ∷ 0x8d ∷ 0x11 ∷ []) 2 ≡ whole 2 ∷ [])
unfolding be num_at zeros_of zeros stripped normal nibbles text_of exp_digits exponent mantissa form_of value_of real_at number_at
    operator_at token_at entry_from entry_at readings_from readings_at last_place operands_at
places = (refl, refl, refl)
