-- A CID-keyed font for worked examples, its bytes and what reading gives. It has three FDs, of which 0 and 2 have glyphs, and CIDs that do
-- not rise with the glyphs. Glyphs 1 and 3 each declare a stem and call the second local subroutine of their FD. That of FD 2 holds a mask;
-- that of FD 0 calls the second global one, which holds a mask. Glyph 2 calls the first local subroutine of FD 2.
use Rattle.std.specs.Prelude.{ℕ, ◌≡◌, refl, List, [], ◌∷◌, ◌++◌, Ok}
use Rattle.octets.specs.Octets.{be, num_at}
use Rattle.octets.specs.Lists.{all_below}
use Rattle.index.specs.Index.{offsets, run_of, judged, data_at, table_at, index_at, pieces, items_of, told, read_index}
use Rattle.decimal.specs.Decimal.{zeros_of, zeros, stripped, normal, whole}
use Rattle.decimal.specs.Number.{number_at, real_at}
use Rattle.decimal.specs.Values.{trunc_of}
use Rattle.dict.specs.Dict.{token_at, operator_at, entry_from, entry_at, readings_from, readings_at, gathered, dict_of}
use Rattle.dict.specs.Op.{private, subrs, ros}
use Rattle.dict.specs.Places.{listed}
use Rattle.dict.specs.Lookup.{last_from, last_of}
use Rattle.charset.specs.Listed.{list_of}
use Rattle.charset.specs.Charset.{ids_from, charset_at}
use Rattle.charset.specs.FdSelect as select
use Rattle.unfold.specs.Unfold.{Row, local, global, entered, masked}
use Rattle.record.specs.Record.{rows_from, rows_of}
use Rattle.opentype.specs.Opentype.{place_of}
use Rattle.cff.specs.Font.{standard, Program, charset, char_strings, fd_array, fd_select_lem, read_table, read_font, set_at, fonts_at, font_at, cid_parts, fds_at, ids_at, dicts_at, privates_at, private_at, private_data, locals_at, empty_private}

-- the font's bytes
abbrev pub cid_font : List ℕ
cid_font =
    -- header
    0x01 ∷ 0x00 ∷ 0x04 ∷ 0x01
    -- names
    ∷ 0x00 ∷ 0x01 ∷ 0x01 ∷ 0x01 ∷ 0x02 ∷ 0x58
    -- top DICT: ROS, charset, FDSelect, CharStrings, FDArray
    ∷ 0x00 ∷ 0x01 ∷ 0x01 ∷ 0x01 ∷ 0x1a ∷ 0xf8 ∷ 0x1b ∷ 0xf8 ∷ 0x1c ∷ 0x8b ∷ 0x0c ∷ 0x1e ∷ 0x1c ∷ 0x00 ∷ 0x3c ∷ 0x0f ∷ 0x1c ∷ 0x00 ∷ 0x45 ∷ 0x0c
    ∷ 0x25 ∷ 0x1c ∷ 0x00 ∷ 0x4b ∷ 0x11 ∷ 0x1c ∷ 0x00 ∷ 0x66 ∷ 0x0c ∷ 0x24
    -- strings
    ∷ 0x00 ∷ 0x02 ∷ 0x01 ∷ 0x01 ∷ 0x03 ∷ 0x05 ∷ 0x52 ∷ 0x67 ∷ 0x4f ∷ 0x72
    -- global subroutines
    ∷ 0x00 ∷ 0x02 ∷ 0x01 ∷ 0x01 ∷ 0x02 ∷ 0x05 ∷ 0x0e ∷ 0x13 ∷ 0xff ∷ 0x0b
    -- charset: CIDs 0 5 9 3 1
    ∷ 0x00 ∷ 0x00 ∷ 0x05 ∷ 0x00 ∷ 0x09 ∷ 0x00 ∷ 0x03 ∷ 0x00 ∷ 0x01
    -- FDSelect: 0 2 2 0 2
    ∷ 0x00 ∷ 0x00 ∷ 0x02 ∷ 0x02 ∷ 0x00 ∷ 0x02
    -- charstrings
    ∷ 0x00 ∷ 0x05 ∷ 0x01 ∷ 0x01 ∷ 0x02 ∷ 0x08 ∷ 0x0b ∷ 0x11 ∷ 0x13 ∷ 0x0e ∷ 0x8c ∷ 0x8c ∷ 0x01 ∷ 0x21 ∷ 0x0a ∷ 0x0e ∷ 0x20 ∷ 0x0a ∷ 0x0e ∷ 0x8c
    ∷ 0x8c ∷ 0x01 ∷ 0x21 ∷ 0x0a ∷ 0x0e ∷ 0x8d ∷ 0x0e
    -- Font DICTs
    ∷ 0x00 ∷ 0x03 ∷ 0x01 ∷ 0x01 ∷ 0x06 ∷ 0x06 ∷ 0x0b ∷ 0x8d ∷ 0x1c ∷ 0x00 ∷ 0x77 ∷ 0x12 ∷ 0x8f ∷ 0x1c ∷ 0x00 ∷ 0x83 ∷ 0x12
    -- Private DICT and local subroutines of FD 0
    ∷ 0x8d ∷ 0x13 ∷ 0x00 ∷ 0x02 ∷ 0x01 ∷ 0x01 ∷ 0x02 ∷ 0x05 ∷ 0x0e ∷ 0x21 ∷ 0x1d ∷ 0x0b
    -- Private DICT and local subroutines of FD 2
    ∷ 0x8d ∷ 0x14 ∷ 0x8f ∷ 0x13 ∷ 0x00 ∷ 0x02 ∷ 0x01 ∷ 0x01 ∷ 0x02 ∷ 0x07 ∷ 0x0e ∷ 0x8d ∷ 0x16 ∷ 0x13 ∷ 0xff ∷ 0x0b ∷ []

-- what it holds
abbrev pub cid_program : Program
cid_program =
    record {
      top =
          (record { op = ros; operands = whole 391 ∷ whole 392 ∷ whole 0 ∷ [] })
          ∷ (record { op = charset; operands = whole 60 ∷ [] })
          ∷ (record { op = fd_select_lem; operands = whole 69 ∷ [] })
          ∷ (record { op = char_strings; operands = whole 75 ∷ [] })
          ∷ (record { op = fd_array; operands = whole 102 ∷ [] })
          ∷ [];
      strings = (0x52 ∷ 0x67 ∷ []) ∷ (0x4f ∷ 0x72 ∷ []) ∷ [];
      globals = (0x0e ∷ []) ∷ (0x13 ∷ 0xff ∷ 0x0b ∷ []) ∷ [];
      charstrings =
          (0x0e ∷ [])
          ∷ (0x8c ∷ 0x8c ∷ 0x01 ∷ 0x21 ∷ 0x0a ∷ 0x0e ∷ [])
          ∷ (0x20 ∷ 0x0a ∷ 0x0e ∷ [])
          ∷ (0x8c ∷ 0x8c ∷ 0x01 ∷ 0x21 ∷ 0x0a ∷ 0x0e ∷ [])
          ∷ (0x8d ∷ 0x0e ∷ [])
          ∷ [];
      ids = 0 ∷ 5 ∷ 9 ∷ 3 ∷ 1 ∷ [];
      privates =
          (record {
            entries = (record { op = subrs; operands = whole 2 ∷ [] }) ∷ [];
            locals = (0x0e ∷ []) ∷ (0x21 ∷ 0x1d ∷ 0x0b ∷ []) ∷ [];
          })
          ∷ empty_private
          ∷ (record {
            entries = (record { op = 20; operands = whole 2 ∷ [] }) ∷ (record { op = subrs; operands = whole 4 ∷ [] }) ∷ [];
            locals = (0x0e ∷ []) ∷ (0x8d ∷ 0x16 ∷ 0x13 ∷ 0xff ∷ 0x0b ∷ []) ∷ [];
          })
          ∷ [];
      fds = 0 ∷ 2 ∷ 2 ∷ 0 ∷ 2 ∷ [];
      dicts =
          ((record { op = private; operands = whole 2 ∷ whole 119 ∷ [] }) ∷ [])
          ∷ []
          ∷ ((record { op = private; operands = whole 4 ∷ whole 131 ∷ [] }) ∷ [])
          ∷ [];
      coding = standard;
    }

-- and that reading gives it
pub reads : read_font cid_font ≡ Ok cid_program
unfolding
    read_font read_table place_of set_at fonts_at font_at cid_parts fds_at ids_at privates_at private_at private_data locals_at read_index told items_of pieces index_at table_at data_at judged run_of
    offsets num_at be dict_of gathered readings_at readings_from entry_at entry_from token_at operator_at number_at real_at normal stripped zeros zeros_of trunc_of last_of
    last_from list_of ids_from charset_at select.fd_select_at all_below dicts_at listed
reads = refl

-- the record of glyphs 0, 1, 3 and 4, as the Rust's trace gives it
abbrev pub reach : List ℕ
reach =
    0x00 ∷ 0x00 ∷ 0x00 ∷ 0x01 ∷ 0x00 ∷ 0x00 ∷ 0x00 ∷ 0x00 ∷ 0x00 ∷ 0x00
    ∷ 0x00 ∷ 0x02 ∷ 0x00 ∷ 0x01 ∷ 0x00 ∷ 0x00 ∷ 0x00 ∷ 0x00 ∷ 0x00 ∷ 0x00
    ∷ 0x01 ∷ 0x00 ∷ 0x00 ∷ 0x01 ∷ 0x00 ∷ 0x00 ∷ 0x00 ∷ 0x00 ∷ 0x00 ∷ 0x00
    ∷ 0x04 ∷ 0x00 ∷ 0x00 ∷ 0x01 ∷ 0x00 ∷ 0x00 ∷ 0x00 ∷ 0x00 ∷ 0x00 ∷ 0x01
    ∷ 0x03 ∷ 0x02 ∷ 0x00 ∷ 0x01 ∷ 0x00 ∷ 0x00 ∷ 0x00 ∷ 0x02 ∷ 0x00 ∷ 0x01 ∷ []

-- its rows
abbrev pub reach_rows : List Row
reach_rows = entered (local 0 1) ∷ entered (local 2 1) ∷ entered (global 1) ∷ masked (global 1) 0 1 ∷ masked (local 2 1) 2 1 ∷ []

pub reach-rows : rows_of reach ≡ reach_rows
unfolding rows_of rows_from num_at be
reach-rows = refl

-- and one with global subroutine 2, which the font does not have
abbrev pub wrong_reach : List ℕ
wrong_reach = reach ++ (0x01 ∷ 0x00 ∷ 0x00 ∷ 0x02 ∷ 0x00 ∷ 0x00 ∷ 0x00 ∷ 0x00 ∷ 0x00 ∷ 0x00 ∷ [])

-- its rows
abbrev pub wrong_rows : List Row
wrong_rows = reach_rows ++ (entered (global 2) ∷ [])

pub wrong-rows : rows_of wrong_reach ≡ wrong_rows
unfolding rows_of rows_from num_at be
wrong-rows = refl
