-- Worked examples of document 02, Wish 2: the Font DICTs of a subset, of a font whose FDs have a FontMatrix.
use Rattle.std.specs.Prelude.{◌≡◌, refl, false, [], ◌∷◌}
use Rattle.octets.specs.Octets.{bytes_of}
use Rattle.decimal.specs.declared.Decimal.{Decimal}
use Rattle.decimal.specs.Decimal.{zeros_of, zeros, stripped, normal, whole}
use Rattle.decimal.specs.Written.{int5_bytes, int_bytes, digits_of, width_in, width_of, bare_text, real_text, packed, real_bytes, number_bytes}
use Rattle.decimal.specs.Values.{trunc_of}
use Rattle.dict.specs.Op.{private, font_matrix}
use Rattle.dict.specs.Dict.{Entry}
use Rattle.dict.specs.Lookup.{last_from, last_of}
use Rattle.dict_write.specs.Written.{op_bytes_lem, operands_bytes, entry_bytes, entries_bytes, copied_entry, offset_entry, private_entry, without}
use Rattle.cff.specs.Font.{standard, Program, empty_private}
use Rattle.subset.specs.Subset.{font_dicts}

-- FontMatrix with one size for both directions
abbrev sized : Decimal → Entry
sized d = record { op = font_matrix; operands = d ∷ whole 0 ∷ whole 0 ∷ d ∷ whole 0 ∷ whole 0 ∷ [] }

abbrev named : Entry
named = record { op = private; operands = whole 0 ∷ whole 9 ∷ [] }

-- FD 0 has none; FD 1 has 0.001; FD 2 has 0.5 and then 0.002; FD 3 has one without operands
abbrev program : Program
program =
    record {
      top = [];
      strings = [];
      globals = [];
      charstrings = [];
      ids = [];
      privates = empty_private ∷ empty_private ∷ empty_private ∷ empty_private ∷ [];
      fds = [];
      dicts =
          (named ∷ [])
          ∷ (named ∷ sized (normal false 1 0 3) ∷ [])
          ∷ (sized (normal false 5 0 1) ∷ named ∷ sized (normal false 2 0 3) ∷ [])
          ∷ (record { op = font_matrix; operands = [] } ∷ named ∷ [])
          ∷ [];
      coding = standard;
    }

-- FDs 0 and 2 in use: the new FD 1 has the last FontMatrix of FD 2, before Private; that of FD 1 is not written
second : font_dicts program 16 (0 ∷ 2 ∷ []) ([] ∷ [] ∷ [])
    ≡ (0x1d ∷ 0x00 ∷ 0x00 ∷ 0x00 ∷ 0x00 ∷ 0x1d ∷ 0x00 ∷ 0x00 ∷ 0x00 ∷ 0x10 ∷ 0x12 ∷ [])
    ∷ (0x1e ∷ 0x0a ∷ 0x00 ∷ 0x2f ∷ 0x8b ∷ 0x8b ∷ 0x1e ∷ 0x0a ∷ 0x00 ∷ 0x2f ∷ 0x8b ∷ 0x8b ∷ 0x0c ∷ 0x07
    ∷ 0x1d ∷ 0x00 ∷ 0x00 ∷ 0x00 ∷ 0x00 ∷ 0x1d ∷ 0x00 ∷ 0x00 ∷ 0x00 ∷ 0x10 ∷ 0x12 ∷ [])
    ∷ []
unfolding
    font_dicts copied_entry offset_entry private_entry entry_bytes op_bytes_lem operands_bytes entries_bytes without last_of last_from normal stripped zeros zeros_of int5_bytes number_bytes int_bytes real_text
    real_bytes bare_text packed width_of width_in digits_of trunc_of bytes_of
second = refl

-- FD 3: no operand, so the operator alone
bare : font_dicts program 16 (3 ∷ []) ([] ∷ [])
    ≡ (0x0c ∷ 0x07 ∷ 0x1d ∷ 0x00 ∷ 0x00 ∷ 0x00 ∷ 0x00 ∷ 0x1d ∷ 0x00 ∷ 0x00 ∷ 0x00 ∷ 0x10 ∷ 0x12 ∷ []) ∷ []
unfolding
    font_dicts copied_entry offset_entry private_entry entry_bytes op_bytes_lem operands_bytes entries_bytes without last_of last_from normal stripped zeros zeros_of int5_bytes number_bytes int_bytes real_text
    real_bytes bare_text packed width_of width_in digits_of trunc_of bytes_of
bare = refl
