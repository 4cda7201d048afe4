-- Two families of fonts with the same three glyphs, of which 1 is kept: it calls the second global and the second local subroutine, which the record lists.
-- In the first, bare, x is a byte of the listed local subroutine. In the second, an OpenType file, the parts stand in another order with gaps, the DICTs' entries
-- too, glyph 2 has another charstring, longer by a byte, and the bodies that the record does not list are the byte u.
use Rattle.std.specs.Prelude.{ℕ, ◌≡◌, refl, false, List, [], ◌∷◌, Ok}
use Rattle.octets.specs.Octets.{be, num_at}
use Rattle.index.specs.Index.{offsets, run_of, judged, data_at, table_at, index_at, pieces, items_of, told, read_index}
use Rattle.decimal.specs.Decimal.{zeros_of, zeros, stripped, normal, whole}
use Rattle.decimal.specs.Number.{number_at, real_at}
use Rattle.decimal.specs.Values.{trunc_of}
use Rattle.dict.specs.Dict.{token_at, operator_at, entry_from, entry_at, readings_from, readings_at, gathered, dict_of}
use Rattle.dict.specs.Op.{private, subrs}
use Rattle.dict.specs.Lookup.{last_from, last_of}
use Rattle.charset.specs.Listed.{list_of}
use Rattle.charset.specs.Charset.{ids_from, charset_at}
use Rattle.opentype.specs.Opentype.{row_from_lem, place_of}
use Rattle.cff.specs.Font.{standard, Program, charset, char_strings, read_table, read_font, set_at, fonts_at, font_at, name_parts, ids_at, private_at, private_data, locals_at, coding_at, encoding_got}
use Rattle.subset.specs.Cut.{Outcome, cut_of}

abbrev pub bare : ℕ → List ℕ
bare x =
    -- header
    0x01 ∷ 0x00 ∷ 0x04 ∷ 0x01
    -- names
    ∷ 0x00 ∷ 0x01 ∷ 0x01 ∷ 0x01 ∷ 0x02 ∷ 0x58
    -- top DICT: FullName, charset, CharStrings, Private
    ∷ 0x00 ∷ 0x01 ∷ 0x01 ∷ 0x01 ∷ 0x11 ∷ 0xf8 ∷ 0x1c ∷ 0x02 ∷ 0x1c ∷ 0x00 ∷ 0x32 ∷ 0x0f ∷ 0x1c ∷ 0x00 ∷ 0x37 ∷ 0x11 ∷ 0x8f ∷ 0x1c ∷ 0x00 ∷ 0x47 ∷ 0x12
    -- strings: A, Qx
    ∷ 0x00 ∷ 0x02 ∷ 0x01 ∷ 0x01 ∷ 0x02 ∷ 0x04 ∷ 0x41 ∷ 0x51 ∷ 0x78
    -- global subroutines
    ∷ 0x00 ∷ 0x02 ∷ 0x01 ∷ 0x01 ∷ 0x02 ∷ 0x05 ∷ 0x0b ∷ 0x8d ∷ 0x16 ∷ 0x0b
    -- charset: string ids 0 391 392
    ∷ 0x00 ∷ 0x01 ∷ 0x87 ∷ 0x01 ∷ 0x88
    -- charstrings
    ∷ 0x00 ∷ 0x03 ∷ 0x01 ∷ 0x01 ∷ 0x02 ∷ 0x07 ∷ 0x0a ∷ 0x0e ∷ 0x21 ∷ 0x0a ∷ 0x21 ∷ 0x1d ∷ 0x0e ∷ 0x20 ∷ 0x0a ∷ 0x0e
    -- Private DICT and local subroutines
    ∷ 0x8d ∷ 0x14 ∷ 0x8f ∷ 0x13 ∷ 0x00 ∷ 0x02 ∷ 0x01 ∷ 0x01 ∷ 0x02 ∷ 0x05 ∷ 0x0b ∷ x ∷ 0x16 ∷ 0x0b ∷ []

-- what it holds
abbrev pub bare_program : ℕ → Program
bare_program x =
    record {
      top =
          (record { op = 2; operands = whole 392 ∷ [] })
          ∷ (record { op = charset; operands = whole 50 ∷ [] })
          ∷ (record { op = char_strings; operands = whole 55 ∷ [] })
          ∷ (record { op = private; operands = whole 4 ∷ whole 71 ∷ [] })
          ∷ [];
      strings = (0x41 ∷ []) ∷ (0x51 ∷ 0x78 ∷ []) ∷ [];
      globals = (0x0b ∷ []) ∷ (0x8d ∷ 0x16 ∷ 0x0b ∷ []) ∷ [];
      charstrings = (0x0e ∷ []) ∷ (0x21 ∷ 0x0a ∷ 0x21 ∷ 0x1d ∷ 0x0e ∷ []) ∷ (0x20 ∷ 0x0a ∷ 0x0e ∷ []) ∷ [];
      ids = 0 ∷ 391 ∷ 392 ∷ [];
      privates =
          (record {
            entries = (record { op = 20; operands = whole 2 ∷ [] }) ∷ (record { op = subrs; operands = whole 4 ∷ [] }) ∷ [];
            locals = (0x0b ∷ []) ∷ (x ∷ 0x16 ∷ 0x0b ∷ []) ∷ [];
          })
          ∷ [];
      fds = 0 ∷ 0 ∷ 0 ∷ [];
      dicts = [];
      coding = standard;
    }

pub bare-reads : (x : ℕ) → read_font (bare x) ≡ Ok (bare_program x)
unfolding
    read_font read_table place_of row_from_lem set_at fonts_at font_at name_parts ids_at private_at private_data locals_at coding_at encoding_got read_index told items_of pieces index_at table_at data_at judged run_of
    offsets num_at be dict_of gathered readings_at readings_from entry_at entry_from token_at operator_at number_at real_at normal stripped zeros zeros_of trunc_of last_of last_from list_of ids_from
    charset_at
bare-reads x = refl

abbrev pub moved : ℕ → List ℕ
moved u =
    -- `OTTO`, one table
    0x4f ∷ 0x54 ∷ 0x54 ∷ 0x4f ∷ 0x00 ∷ 0x01 ∷ 0x00 ∷ 0x00 ∷ 0x00 ∷ 0x00 ∷ 0x00 ∷ 0x00
    -- `CFF `, from byte 28 on
    ∷ 0x43 ∷ 0x46 ∷ 0x46 ∷ 0x20 ∷ 0x00 ∷ 0x00 ∷ 0x00 ∷ 0x00 ∷ 0x00 ∷ 0x00 ∷ 0x00 ∷ 0x1c ∷ 0x00 ∷ 0x00 ∷ 0x00 ∷ 0x5a
    -- header
    ∷ 0x01 ∷ 0x00 ∷ 0x04 ∷ 0x01
    -- names
    ∷ 0x00 ∷ 0x01 ∷ 0x01 ∷ 0x01 ∷ 0x02 ∷ 0x58
    -- top DICT: Private, CharStrings, FullName, charset
    ∷ 0x00 ∷ 0x01 ∷ 0x01 ∷ 0x01 ∷ 0x11 ∷ 0x8f ∷ 0x1c ∷ 0x00 ∷ 0x35 ∷ 0x12 ∷ 0x1c ∷ 0x00 ∷ 0x39 ∷ 0x11 ∷ 0xf8 ∷ 0x1c ∷ 0x02 ∷ 0x1c ∷ 0x00 ∷ 0x55 ∷ 0x0f
    -- strings: A, Qx
    ∷ 0x00 ∷ 0x02 ∷ 0x01 ∷ 0x01 ∷ 0x02 ∷ 0x04 ∷ 0x41 ∷ 0x51 ∷ 0x78
    -- global subroutines
    ∷ 0x00 ∷ 0x02 ∷ 0x01 ∷ 0x01 ∷ 0x02 ∷ 0x05 ∷ u ∷ 0x8d ∷ 0x16 ∷ 0x0b
    -- nothing
    ∷ 0xff ∷ 0xff ∷ 0xff
    -- Private DICT
    ∷ 0xa1 ∷ 0x13 ∷ 0x8d ∷ 0x14
    -- charstrings
    ∷ 0x00 ∷ 0x03 ∷ 0x01 ∷ 0x01 ∷ 0x02 ∷ 0x07 ∷ 0x0b ∷ 0x0e ∷ 0x21 ∷ 0x0a ∷ 0x21 ∷ 0x1d ∷ 0x0e ∷ 0x8b ∷ 0x8b ∷ 0x15 ∷ 0x0e
    -- nothing
    ∷ 0xff
    -- local subroutines
    ∷ 0x00 ∷ 0x02 ∷ 0x01 ∷ 0x01 ∷ 0x02 ∷ 0x05 ∷ u ∷ 0x8d ∷ 0x16 ∷ 0x0b
    -- charset: string ids 0 391 392
    ∷ 0x00 ∷ 0x01 ∷ 0x87 ∷ 0x01 ∷ 0x88 ∷ []

abbrev pub moved_program : ℕ → Program
moved_program u =
    record {
      top =
          (record { op = private; operands = whole 4 ∷ whole 53 ∷ [] })
          ∷ (record { op = char_strings; operands = whole 57 ∷ [] })
          ∷ (record { op = 2; operands = whole 392 ∷ [] })
          ∷ (record { op = charset; operands = whole 85 ∷ [] })
          ∷ [];
      strings = (0x41 ∷ []) ∷ (0x51 ∷ 0x78 ∷ []) ∷ [];
      globals = (u ∷ []) ∷ (0x8d ∷ 0x16 ∷ 0x0b ∷ []) ∷ [];
      charstrings = (0x0e ∷ []) ∷ (0x21 ∷ 0x0a ∷ 0x21 ∷ 0x1d ∷ 0x0e ∷ []) ∷ (0x8b ∷ 0x8b ∷ 0x15 ∷ 0x0e ∷ []) ∷ [];
      ids = 0 ∷ 391 ∷ 392 ∷ [];
      privates =
          (record {
            entries = (record { op = subrs; operands = whole 22 ∷ [] }) ∷ (record { op = 20; operands = whole 2 ∷ [] }) ∷ [];
            locals = (u ∷ []) ∷ (0x8d ∷ 0x16 ∷ 0x0b ∷ []) ∷ [];
          })
          ∷ [];
      fds = 0 ∷ 0 ∷ 0 ∷ [];
      dicts = [];
      coding = standard;
    }

pub moved-reads : (u : ℕ) → read_font (moved u) ≡ Ok (moved_program u)
unfolding
    read_font read_table place_of row_from_lem set_at fonts_at font_at name_parts ids_at private_at private_data locals_at coding_at encoding_got read_index told items_of pieces index_at table_at data_at judged run_of
    offsets num_at be dict_of gathered readings_at readings_from entry_at entry_from token_at operator_at number_at real_at normal stripped zeros zeros_of trunc_of last_of last_from list_of ids_from
    charset_at
moved-reads u = refl

-- the record: local subroutine 1 of FD 0, and global subroutine 1
abbrev pub reach : List ℕ
reach =
    0x00 ∷ 0x00 ∷ 0x00 ∷ 0x01 ∷ 0x00 ∷ 0x00 ∷ 0x00 ∷ 0x00 ∷ 0x00 ∷ 0x00
    ∷ 0x01 ∷ 0x00 ∷ 0x00 ∷ 0x01 ∷ 0x00 ∷ 0x00 ∷ 0x00 ∷ 0x00 ∷ 0x00 ∷ 0x00 ∷ []

abbrev pub keep : List ℕ
keep = 1 ∷ []

-- the call under the name N
abbrev pub cut : List ℕ → List ℕ → ℕ → Outcome
cut font rec flag = cut_of false false font (0x4e ∷ []) keep rec flag 8192 32768
