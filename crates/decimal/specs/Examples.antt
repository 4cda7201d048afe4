-- Worked examples, computed: TN5176's own, document 01's ('Corners in write.rs', 'Entries and their refusals'), and each point on which
-- the text of a real could be read in two ways.
use Rattle.std.specs.Prelude.{ℕ, ◌≡◌, refl, Bool, true, false, List, [], ◌∷◌, ◌++◌, replicate, None, Some, Ok, Err}
use Rattle.octets.specs.Octets.{be, num_at, bytes_of}
use Rattle.decimal.specs.declared.Decimal.{Decimal}
use Rattle.decimal.specs.Decimal.{nought, zeros_of, zeros, stripped, normal}
use Rattle.decimal.specs.Real.{nibbles, text_of, exp_digits, exponent, mantissa, form_of, value_of}
use Rattle.decimal.specs.Number.{Number, refused, not_number, number, real_at, number_at}
use Rattle.decimal.specs.Values.{trunc_of, clamped, i32_of, id_of, offset_of, is_two}
use Rattle.decimal.specs.Written.{int5_bytes, int_bytes, digits_of, width_in, width_of, bare_text, real_text, packed, real_bytes, number_bytes}
use Rattle.refusal.specs.declared.Refusal.TheVariants.{Truncated, Malformed, Real}

-- a decimal, its sign first
abbrev dec : Bool → ℕ → ℕ → ℕ → Decimal
dec s n a b = record { neg = s; digits = n; up = a; down = b }

-- what a DICT of these bytes starts with
abbrev at-start : List ℕ → Number
at-start b = number_at b 0

-- TN5176, section 4: -2.25 and 0.140541E-3
note_reals :
    (at-start (0x1e ∷ 0xe2 ∷ 0xa2 ∷ 0x5f ∷ []) ≡ number (dec true 225 0 2) 4)
    × (at-start (0x1e ∷ 0x0a ∷ 0x14 ∷ 0x05 ∷ 0x41 ∷ 0xc3 ∷ 0xff ∷ []) ≡ number (dec false 140541 0 9) 7)
unfolding be num_at zeros_of zeros stripped normal nibbles text_of exp_digits exponent mantissa form_of value_of real_at number_at
note_reals = (refl, refl)

-- TN5176, table 4: 0, 100, -100, 1000, -1000, 10000, -10000, 100000 and -100000, each in its form
note_integers :
    (at-start (0x8b ∷ []) ≡ number nought 1)
    × (at-start (0xef ∷ []) ≡ number (dec false 1 2 0) 1)
    × (at-start (0x27 ∷ []) ≡ number (dec true 1 2 0) 1)
    × (at-start (0xfa ∷ 0x7c ∷ []) ≡ number (dec false 1 3 0) 2)
    × (at-start (0xfe ∷ 0x7c ∷ []) ≡ number (dec true 1 3 0) 2)
    × (at-start (0x1c ∷ 0x27 ∷ 0x10 ∷ []) ≡ number (dec false 1 4 0) 3)
    × (at-start (0x1c ∷ 0xd8 ∷ 0xf0 ∷ []) ≡ number (dec true 1 4 0) 3)
    × (at-start (0x1d ∷ 0x00 ∷ 0x01 ∷ 0x86 ∷ 0xa0 ∷ []) ≡ number (dec false 1 5 0) 5)
    × (at-start (0x1d ∷ 0xff ∷ 0xfe ∷ 0x79 ∷ 0x60 ∷ []) ≡ number (dec true 1 5 0) 5)
unfolding be num_at zeros_of zeros stripped normal nibbles text_of exp_digits exponent mantissa form_of value_of real_at number_at
note_integers = (refl, refl, refl, refl, refl, refl, refl, refl, refl)

-- what is cut off is truncated; an operator, 22 to 27, 31 and 255 are no numbers
no_integers :
    (at-start (0x1c ∷ 0x00 ∷ []) ≡ refused Truncated)
    × (at-start (0x1d ∷ 0x00 ∷ 0x00 ∷ 0x00 ∷ []) ≡ refused Truncated)
    × (at-start (0xf7 ∷ []) ≡ refused Truncated)
    × (at-start (0xfb ∷ []) ≡ refused Truncated)
    × (at-start (0x00 ∷ []) ≡ not_number)
    × (at-start (0x16 ∷ []) ≡ not_number)
    × (at-start (0x1f ∷ []) ≡ not_number)
    × (at-start (0xff ∷ []) ≡ not_number)
unfolding be num_at zeros_of zeros stripped normal nibbles text_of exp_digits exponent mantissa form_of value_of real_at number_at
no_integers = (refl, refl, refl, refl, refl, refl, refl, refl)

-- a point needs a digit on one side; an empty text and minus zero are 0
points :
    (at-start (0x1e ∷ 0x5a ∷ 0xff ∷ []) ≡ number (dec false 5 0 0) 3)
    × (at-start (0x1e ∷ 0xa5 ∷ 0xff ∷ []) ≡ number (dec false 5 0 1) 3)
    × (at-start (0x1e ∷ 0xea ∷ 0x5f ∷ []) ≡ number (dec true 5 0 1) 3)
    × (at-start (0x1e ∷ 0xff ∷ []) ≡ number nought 2)
    × (at-start (0x1e ∷ 0xe0 ∷ 0xff ∷ []) ≡ number nought 3)
    × (at-start (0x1e ∷ 0xea ∷ 0x0f ∷ []) ≡ number nought 3)
    × (at-start (0x1e ∷ 0xaf ∷ []) ≡ refused Malformed)
    × (at-start (0x1e ∷ 0xef ∷ []) ≡ refused Malformed)
    × (at-start (0x1e ∷ 0x5a ∷ 0xa5 ∷ 0xff ∷ []) ≡ refused Malformed)
    × (at-start (0x1e ∷ 0x5e ∷ 0xff ∷ []) ≡ refused Malformed)
unfolding be num_at zeros_of zeros stripped normal nibbles text_of exp_digits exponent mantissa form_of value_of real_at number_at
points = (refl, refl, refl, refl, refl, refl, refl, refl, refl, refl)

-- an exponent needs a digit before the E and one after; `b`, `e` are E and a minus as `c` is, and `c`, `e` are two minuses
exponents :
    (at-start (0x1e ∷ 0x1b ∷ 0x2f ∷ []) ≡ number (dec false 1 2 0) 3)
    × (at-start (0x1e ∷ 0x1c ∷ 0x2f ∷ []) ≡ number (dec false 1 0 2) 3)
    × (at-start (0x1e ∷ 0x1b ∷ 0xe2 ∷ 0xff ∷ []) ≡ number (dec false 1 0 2) 4)
    × (at-start (0x1e ∷ 0x5a ∷ 0xb2 ∷ 0xff ∷ []) ≡ number (dec false 5 2 0) 4)
    × (at-start (0x1e ∷ 0x1c ∷ 0xe2 ∷ 0xff ∷ []) ≡ refused Malformed)
    × (at-start (0x1e ∷ 0xb5 ∷ 0xff ∷ []) ≡ refused Malformed)
    × (at-start (0x1e ∷ 0xc5 ∷ 0xff ∷ []) ≡ refused Malformed)
    × (at-start (0x1e ∷ 0xab ∷ 0x5f ∷ []) ≡ refused Malformed)
    × (at-start (0x1e ∷ 0x1b ∷ 0xff ∷ []) ≡ refused Malformed)
    × (at-start (0x1e ∷ 0x1c ∷ 0xff ∷ []) ≡ refused Malformed)
    × (at-start (0x1e ∷ 0x1b ∷ 0xef ∷ []) ≡ refused Malformed)
    × (at-start (0x1e ∷ 0x1b ∷ 0x2a ∷ 0xff ∷ []) ≡ refused Malformed)
unfolding be num_at zeros_of zeros stripped normal nibbles text_of exp_digits exponent mantissa form_of value_of real_at number_at
exponents = (refl, refl, refl, refl, refl, refl, refl, refl, refl, refl, refl, refl)

-- `d` is malformed at once, even where the bytes then end; else the end must come; the nibble after the end does not matter
ends :
    (at-start (0x1e ∷ 0x1d ∷ []) ≡ refused Malformed)
    × (at-start (0x1e ∷ 0xd1 ∷ []) ≡ refused Malformed)
    × (at-start (0x1e ∷ []) ≡ refused Truncated)
    × (at-start (0x1e ∷ 0x12 ∷ []) ≡ refused Truncated)
    × (at-start (0x1e ∷ 0xaa ∷ []) ≡ refused Truncated)
    × (at-start (0x1e ∷ 0xf0 ∷ []) ≡ number nought 2)
    × (at-start (0x1e ∷ 0x1f ∷ []) ≡ number (dec false 1 0 0) 2)
    × (at-start (0x1e ∷ 0x12 ∷ 0xfd ∷ []) ≡ number (dec false 12 0 0) 3)
unfolding be num_at zeros_of zeros stripped normal nibbles text_of exp_digits exponent mantissa form_of value_of real_at number_at
ends = (refl, refl, refl, refl, refl, refl, refl, refl)

-- 15 digits pass and 16 do not, zeros at either end dropped; powers of ten from -30 to 30; zero passes with any exponent
limits :
    (at-start (0x1e ∷ 0x12 ∷ 0x34 ∷ 0x56 ∷ 0x78 ∷ 0x90 ∷ 0x12 ∷ 0x34 ∷ 0x5f ∷ []) ≡ number (dec false 123456789012345 0 0) 9)
    × (at-start (0x1e ∷ 0x12 ∷ 0x34 ∷ 0x56 ∷ 0x78 ∷ 0x90 ∷ 0x12 ∷ 0x34 ∷ 0x56 ∷ 0xff ∷ []) ≡ refused Real)
    × (at-start (0x1e ∷ 0x00 ∷ 0x12 ∷ 0x34 ∷ 0x56 ∷ 0x78 ∷ 0x90 ∷ 0x12 ∷ 0x34 ∷ 0x50 ∷ 0x0f ∷ []) ≡ number (dec false 123456789012345 2 0) 11)
    × (at-start (0x1e ∷ 0x1b ∷ 0x30 ∷ 0xff ∷ []) ≡ number (dec false 1 30 0) 4)
    × (at-start (0x1e ∷ 0x1b ∷ 0x31 ∷ 0xff ∷ []) ≡ refused Real)
    × (at-start (0x1e ∷ 0x10 ∷ 0xb3 ∷ 0x0f ∷ []) ≡ refused Real)
    × (at-start (0x1e ∷ 0x1c ∷ 0x30 ∷ 0xff ∷ []) ≡ number (dec false 1 0 30) 4)
    × (at-start (0x1e ∷ 0x1c ∷ 0x31 ∷ 0xff ∷ []) ≡ refused Real)
    × (at-start (0x1e ∷ 0x10 ∷ 0xc3 ∷ 0x1f ∷ []) ≡ number (dec false 1 0 30) 4)
    × (at-start (0x1e ∷ 0x0b ∷ 0x99 ∷ 0x99 ∷ 0x99 ∷ 0xff ∷ []) ≡ number nought 6)
    × (at-start (0x1e ∷ 0x0c ∷ 0x99 ∷ 0x99 ∷ 0x99 ∷ 0x99 ∷ 0xff ∷ []) ≡ number nought 7)
unfolding be num_at zeros_of zeros stripped normal nibbles text_of exp_digits exponent mantissa form_of value_of real_at number_at
limits = (refl, refl, refl, refl, refl, refl, refl, refl, refl, refl, refl)

-- 64 nibbles with the end pass, 65 do not, zero or not; malformed comes before
lengths :
    (at-start (0x1e ∷ (replicate 31 0x00 ++ (0x0f ∷ []))) ≡ number nought 33)
    × (at-start (0x1e ∷ (replicate 31 0x00 ++ (0x1f ∷ []))) ≡ number (dec false 1 0 0) 33)
    × (at-start (0x1e ∷ (replicate 32 0x00 ++ (0xff ∷ []))) ≡ refused Real)
    × (at-start (0x1e ∷ (replicate 32 0x00 ++ (0x0f ∷ []))) ≡ refused Real)
    × (at-start (0x1e ∷ (replicate 32 0x00 ++ (0xef ∷ []))) ≡ refused Malformed)
    × (at-start (0x1e ∷ (replicate 40 0x00 ++ (0xd0 ∷ []))) ≡ refused Malformed)
unfolding be num_at zeros_of zeros stripped normal nibbles text_of exp_digits exponent mantissa form_of value_of real_at number_at
lengths = (refl, refl, refl, refl, refl, refl)

-- document 01's integers and their neighbours, 2147483647 and -2147483648 as reals
written_integers :
    (number_bytes (dec false 108 0 0) ≡ 0xf7 ∷ 0x00 ∷ [])
    × (number_bytes (dec false 1131 0 0) ≡ 0xfa ∷ 0xff ∷ [])
    × (number_bytes (dec false 1132 0 0) ≡ 0x1c ∷ 0x04 ∷ 0x6c ∷ [])
    × (number_bytes (dec true 1132 0 0) ≡ 0x1c ∷ 0xfb ∷ 0x94 ∷ [])
    × (number_bytes (dec false 2147483646 0 0) ≡ 0x1d ∷ 0x7f ∷ 0xff ∷ 0xff ∷ 0xfe ∷ [])
    × (number_bytes (dec true 32768 0 0) ≡ 0x1c ∷ 0x80 ∷ 0x00 ∷ [])
    × (number_bytes (dec false 32768 0 0) ≡ 0x1d ∷ 0x00 ∷ 0x00 ∷ 0x80 ∷ 0x00 ∷ [])
    × (number_bytes (dec false 107 0 0) ≡ 0xf6 ∷ [])
    × (number_bytes (dec true 107 0 0) ≡ 0x20 ∷ [])
    × (number_bytes (dec false 2147483647 0 0) ≡ 0x1e ∷ 0x21 ∷ 0x47 ∷ 0x48 ∷ 0x36 ∷ 0x47 ∷ 0xff ∷ [])
    × (number_bytes (dec true 2147483648 0 0) ≡ 0x1e ∷ 0xe2 ∷ 0x14 ∷ 0x74 ∷ 0x83 ∷ 0x64 ∷ 0x8f ∷ [])
    × (number_bytes nought ≡ 0x8b ∷ [])
    × (int5_bytes false 1 ≡ 0x1d ∷ 0x00 ∷ 0x00 ∷ 0x00 ∷ 0x01 ∷ [])
    × (int5_bytes true 1 ≡ 0x1d ∷ 0xff ∷ 0xff ∷ 0xff ∷ 0xff ∷ [])
unfolding bytes_of int5_bytes int_bytes digits_of width_in width_of trunc_of bare_text real_text packed real_bytes number_bytes
written_integers = (refl, refl, refl, refl, refl, refl, refl, refl, refl, refl, refl, refl, refl, refl)

-- reals without exponent: 0.001, -2.25, 0.5, -12.5 and 1E10
written-reals :
    (number_bytes (dec false 1 0 3) ≡ 0x1e ∷ 0x0a ∷ 0x00 ∷ 0x1f ∷ [])
    × (number_bytes (dec true 225 0 2) ≡ 0x1e ∷ 0xe2 ∷ 0xa2 ∷ 0x5f ∷ [])
    × (number_bytes (dec false 5 0 1) ≡ 0x1e ∷ 0x0a ∷ 0x5f ∷ [])
    × (number_bytes (dec true 125 0 1) ≡ 0x1e ∷ 0xe1 ∷ 0x2a ∷ 0x5f ∷ [])
    × (number_bytes (dec false 1 10 0) ≡ 0x1e ∷ 0x10 ∷ 0x00 ∷ 0x00 ∷ 0x00 ∷ 0x00 ∷ 0x0f ∷ [])
unfolding bytes_of int5_bytes int_bytes digits_of width_in width_of trunc_of bare_text real_text packed real_bytes number_bytes
written-reals = (refl, refl, refl, refl, refl)

-- fractions are dropped towards zero: -0.5 is the id 0, -1 is none; an offset must be whole
values :
    (id_of (dec true 5 0 1) ≡ Some 0)
    × (id_of (dec true 1 0 0) ≡ None)
    × (id_of (dec false 655359 0 1) ≡ Some 65535)
    × (id_of (dec false 65536 0 0) ≡ None)
    × (clamped 65535 (dec false 1 5 0) ≡ 65535)
    × (clamped 65535 (dec true 1 5 0) ≡ 0)
    × (clamped 65535 (dec false 29 0 1) ≡ 2)
    × (i32_of (dec true 5 0 1) ≡ record { neg = false; size = 0 })
    × (i32_of (dec true 1 30 0) ≡ record { neg = true; size = 2147483648 })
    × (i32_of (dec false 1 30 0) ≡ record { neg = false; size = 2147483647 })
    × (offset_of (dec false 15 0 1) ≡ Err Malformed)
    × (offset_of (dec true 1 0 0) ≡ Err Malformed)
    × (offset_of nought ≡ Ok 0)
    × (offset_of (dec false 1 30 0) ≡ Ok 4294967296)
    × (is_two (dec false 2 0 0) ≡ true)
    × (is_two (dec true 2 0 0) ≡ false)
    × (is_two (dec false 2 1 0) ≡ false)
unfolding trunc_of
values = (refl, refl, refl, refl, refl, refl, refl, refl, refl, refl, refl, refl, refl, refl, refl, refl, refl)
