-- Worked examples, computed: a small CID-keyed font, and finding by CID and by name.
use Rattle.std.specs.Prelude.{ℕ, ◌≡◌, refl, true, List, [], ◌∷◌, ◌++◌, Ok, Some, None}
use Rattle.octets.specs.Octets.{be, num_at}
use Rattle.octets.specs.Lists.{all_below}
use Rattle.index.specs.Index.{offsets, run_of, judged, data_at, table_at, index_at, pieces, items_of, told, read_index}
use Rattle.decimal.specs.Decimal.{zeros_of, zeros, stripped, normal}
use Rattle.decimal.specs.Number.{real_at, number_at}
use Rattle.decimal.specs.Values.{trunc_of}
use Rattle.dict.specs.Dict.{token_at, operator_at, entry_from, entry_at, readings_from, readings_at, gathered, dict_of}
use Rattle.dict.specs.Lookup.{last_from, last_of}
use Rattle.charset.specs.Listed.{list_of}
use Rattle.charset.specs.Charset.{ids_from, charset_at}
use Rattle.charset.specs.FdSelect.{fd_select_at}
use Rattle.strings.specs.Table.{standard_names}
use Rattle.strings.specs.Text.{codes, same_text_lem}
use Rattle.strings.specs.Strings.{standard_strings, standard_string, string_text}
use Rattle.find.specs.Find.{glyph_with_id, glyph_with_text}
use Rattle.opentype.specs.Opentype.{place_of}
use Rattle.cff.specs.Font.{locals_at, private_data, private_at, privates_at, ids_at, fds_at, coding_at, encoding_got, cid_parts, name_parts, font_at, fonts_at, set_at, read_table, read_font}
use Rattle.cff.specs.Examples.{sheet}
use Rattle.cff.specs.Find.{locals_words, read_as, name_as, cid_as}

-- the name space
abbrev space : List ℕ
space = 0x73 ∷ 0x70 ∷ 0x61 ∷ 0x63 ∷ 0x65 ∷ []

-- header; the name X; a top DICT: ROS, charset at 34, CharStrings at 40, FDArray at 48, FDSelect at 37; no strings, no globals;
-- charset: CID 5 for glyph 1; FDSelect: FD 0 twice; two charstrings; one FD, whose Private DICT of 2 bytes at 56 has Subrs at 58;
-- and one local subroutine
abbrev cid_font : List ℕ
cid_font =
    (0x01 ∷ 0x00 ∷ 0x04 ∷ 0x01 ∷ []) ++
    ((0x00 ∷ 0x01 ∷ 0x01 ∷ 0x01 ∷ 0x02 ∷ 0x58 ∷ []) ++
    ((0x00 ∷ 0x01 ∷ 0x01 ∷ 0x01 ∷ 0x10 ∷ []) ++
    ((0x8b ∷ 0x8b ∷ 0x8b ∷ 0x0c ∷ 0x1e ∷ 0xad ∷ 0x0f ∷ 0xb3 ∷ 0x11 ∷ 0xbb ∷ 0x0c ∷ 0x24 ∷ 0xb0 ∷ 0x0c ∷ 0x25 ∷ []) ++
    ((0x00 ∷ 0x00 ∷ 0x00 ∷ 0x00 ∷ []) ++
    ((0x00 ∷ 0x00 ∷ 0x05 ∷ []) ++
    ((0x00 ∷ 0x00 ∷ 0x00 ∷ []) ++
    ((0x00 ∷ 0x02 ∷ 0x01 ∷ 0x01 ∷ 0x02 ∷ 0x03 ∷ 0x0e ∷ 0x0e ∷ []) ++
    ((0x00 ∷ 0x01 ∷ 0x01 ∷ 0x01 ∷ 0x04 ∷ 0x8d ∷ 0xc3 ∷ 0x12 ∷ []) ++
    ((0x8d ∷ 0x13 ∷ []) ++
    (0x00 ∷ 0x01 ∷ 0x01 ∷ 0x01 ∷ 0x02 ∷ 0x0b ∷ []))))))))))

cid_read : read_as (read_font cid_font) ≡ Ok (record { glyphs = 2; globals = 0; strings = 0; cid = true; work = 5 })
unfolding
    read_font read_table place_of set_at fonts_at font_at cid_parts privates_at private_at private_data locals_at fds_at fd_select_at all_below ids_at charset_at ids_from read_index told index_at table_at
    data_at run_of judged offsets pieces items_of num_at be dict_of gathered readings_at readings_from entry_at entry_from token_at operator_at number_at real_at normal zeros
    zeros_of stripped last_of last_from trunc_of list_of locals_words
cid_read = refl

-- CID 5 is glyph 1, and no glyph has CID 1; no glyph of a CID-keyed font has a name
cid_5 : cid_as (read_font cid_font) 5 ≡ Ok (Some 1)
unfolding
    read_font read_table place_of set_at fonts_at font_at cid_parts privates_at private_at private_data locals_at fds_at fd_select_at all_below ids_at charset_at ids_from read_index told index_at table_at
    data_at run_of judged offsets pieces items_of num_at be dict_of gathered readings_at readings_from entry_at entry_from token_at operator_at number_at real_at normal zeros
    zeros_of stripped last_of last_from trunc_of list_of glyph_with_id
cid_5 = refl

cid_1 : cid_as (read_font cid_font) 1 ≡ Ok None
unfolding
    read_font read_table place_of set_at fonts_at font_at cid_parts privates_at private_at private_data locals_at fds_at fd_select_at all_below ids_at charset_at ids_from read_index told index_at table_at
    data_at run_of judged offsets pieces items_of num_at be dict_of gathered readings_at readings_from entry_at entry_from token_at operator_at number_at real_at normal zeros
    zeros_of stripped last_of last_from trunc_of list_of glyph_with_id
cid_1 = refl

cid_no_name : name_as (read_font cid_font) space ≡ Ok None
unfolding
    read_font read_table place_of set_at fonts_at font_at cid_parts privates_at private_at private_data locals_at fds_at fd_select_at all_below ids_at charset_at ids_from read_index told index_at table_at
    data_at run_of judged offsets pieces items_of num_at be dict_of gathered readings_at readings_from entry_at entry_from token_at operator_at number_at real_at normal zeros
    zeros_of stripped last_of last_from trunc_of list_of
cid_no_name = refl

-- the font of document 01's sheet has the glyphs.notdef and space, none of the name A, and no CIDs
sheet-space : name_as (read_font sheet) space ≡ Ok (Some 1)
unfolding
    read_font read_table place_of set_at fonts_at font_at name_parts private_at ids_at coding_at encoding_got read_index told index_at table_at data_at run_of judged offsets pieces items_of num_at be dict_of
    gathered readings_at readings_from entry_at entry_from token_at operator_at number_at real_at normal zeros zeros_of stripped last_of last_from trunc_of list_of
    glyph_with_text string_text standard_string standard_strings standard_names codes same_text_lem
sheet-space = refl

sheet_A : name_as (read_font sheet) (0x41 ∷ []) ≡ Ok None
unfolding
    read_font read_table place_of set_at fonts_at font_at name_parts private_at ids_at coding_at encoding_got read_index told index_at table_at data_at run_of judged offsets pieces items_of num_at be dict_of
    gathered readings_at readings_from entry_at entry_from token_at operator_at number_at real_at normal zeros zeros_of stripped last_of last_from trunc_of list_of
    glyph_with_text string_text standard_string standard_strings standard_names codes same_text_lem
sheet_A = refl

sheet_no_cid : cid_as (read_font sheet) 1 ≡ Ok None
unfolding
    read_font read_table place_of set_at fonts_at font_at name_parts private_at ids_at coding_at encoding_got read_index told index_at table_at data_at run_of judged offsets pieces items_of num_at be dict_of
    gathered readings_at readings_from entry_at entry_from token_at operator_at number_at real_at normal zeros zeros_of stripped last_of last_from trunc_of list_of
sheet_no_cid = refl
