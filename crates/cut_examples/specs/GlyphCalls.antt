-- Worked examples, computed: glyphs of document 01's sheet and of a small CID-keyed font, and many names and CIDs.
use Rattle.std.specs.Prelude.{ℕ, ◌≡◌, refl, List, [], ◌∷◌, ◌++◌, Err}
use Rattle.octets.specs.Octets.{be, num_at, put}
use Rattle.octets.specs.Lists.{all_below, sum_of}
use Rattle.index.specs.Index.{offsets, run_of, judged, data_at, table_at, index_at, pieces, items_of, told as toldIndex, read_index}
use Rattle.decimal.specs.Decimal.{zeros_of, zeros, stripped, normal}
use Rattle.decimal.specs.Number.{real_at, number_at}
use Rattle.decimal.specs.Values.{trunc_of}
use Rattle.dict.specs.Dict.{token_at, operator_at, entry_from, entry_at, readings_from, readings_at, gathered, dict_of}
use Rattle.dict.specs.Lookup.{last_from, last_of}
use Rattle.charset.specs.Listed.{list_of}
use Rattle.charset.specs.Charset.{ids_from, charset_at}
use Rattle.charset.specs.FdSelect.{fd_select_at}
use Rattle.strings.specs.Table.{standard_names}
use Rattle.strings.specs.Text.{codes, same_text_lem}
use Rattle.strings.specs.Strings.{standard_strings, standard_string, string_text}
use Rattle.find.specs.Find.{glyph_with_id, glyph_with_text}
use Rattle.opentype.specs.Opentype.{place_of}
use Rattle.cff.specs.Font.{locals_at, private_data, private_at, privates_at, ids_at, fds_at, coding_at, encoding_got, cid_parts, name_parts, font_at, fonts_at, set_at, read_table, read_font}
use Rattle.cff.specs.Examples.{sheet}
use Rattle.glyph_entries.specs.Glyph.{refused, told, glyph_in, glyph_of, within, result_of, leaves_name}
use Rattle.find_many.specs.Many.{refused as refusedMany, found, names_by, names_in, names_found, cids_found}
use Rattle.refusal.specs.declared.Refusal.TheVariants.{Truncated, NoSuchNumber, Output}

-- the name space
abbrev space : List ℕ
space = 0x73 ∷ 0x70 ∷ 0x61 ∷ 0x63 ∷ 0x65 ∷ []

-- header; the name X; a top DICT: ROS, charset at 34, CharStrings at 43, FDArray at 53, FDSelect at 39; no strings, no globals; charset: CID 5 for
-- glyphs 1 and 2; FDSelect: FD 0, 1, 1; three charstrings; two FDs, with no entry
abbrev cid_font : List ℕ
cid_font =
    (0x01 ∷ 0x00 ∷ 0x04 ∷ 0x01 ∷ []) ++
    ((0x00 ∷ 0x01 ∷ 0x01 ∷ 0x01 ∷ 0x02 ∷ 0x58 ∷ []) ++
    ((0x00 ∷ 0x01 ∷ 0x01 ∷ 0x01 ∷ 0x10 ∷ []) ++
    ((0x8b ∷ 0x8b ∷ 0x8b ∷ 0x0c ∷ 0x1e ∷ 0xad ∷ 0x0f ∷ 0xb6 ∷ 0x11 ∷ 0xc0 ∷ 0x0c ∷ 0x24 ∷ 0xb2 ∷ 0x0c ∷ 0x25 ∷ []) ++
    ((0x00 ∷ 0x00 ∷ 0x00 ∷ 0x00 ∷ []) ++
    ((0x00 ∷ 0x00 ∷ 0x05 ∷ 0x00 ∷ 0x05 ∷ []) ++
    ((0x00 ∷ 0x00 ∷ 0x01 ∷ 0x01 ∷ []) ++
    ((0x00 ∷ 0x03 ∷ 0x01 ∷ 0x01 ∷ 0x02 ∷ 0x03 ∷ 0x04 ∷ 0x0e ∷ 0x0e ∷ 0x0e ∷ []) ++
    (0x00 ∷ 0x02 ∷ 0x01 ∷ 0x01 ∷ 0x01 ∷ 0x01 ∷ []))))))))

-- ---- one glyph

-- glyph 1 of the sheet's font has the name space, whose string id is 1
sheet-space : glyph_of (read_font sheet) 1 ≡ told space (0 ∷ 1 ∷ 0 ∷ 5 ∷ [])
unfolding
    read_font read_table place_of set_at fonts_at font_at name_parts private_at ids_at coding_at encoding_got read_index toldIndex index_at table_at data_at run_of judged offsets pieces items_of
    num_at be dict_of gathered readings_at readings_from entry_at entry_from token_at operator_at number_at real_at normal zeros zeros_of stripped last_of last_from trunc_of list_of glyph_in
    string_text standard_string standard_strings standard_names codes
sheet-space = refl

-- there is no glyph 2
sheet-past : glyph_of (read_font sheet) 2 ≡ refused NoSuchNumber
unfolding
    read_font read_table place_of set_at fonts_at font_at name_parts private_at ids_at coding_at encoding_got read_index toldIndex index_at table_at data_at run_of judged offsets pieces items_of
    num_at be dict_of gathered readings_at readings_from entry_at entry_from token_at operator_at number_at real_at normal zeros zeros_of stripped last_of last_from trunc_of list_of glyph_in
sheet-past = refl

-- glyph 2 of the CID-keyed font has CID 5 and FD 1, and no name
cid_fd : glyph_of (read_font cid_font) 2 ≡ told [] (1 ∷ 5 ∷ 1 ∷ 0 ∷ [])
unfolding
    read_font read_table place_of set_at fonts_at font_at cid_parts privates_at private_at private_data locals_at fds_at fd_select_at all_below ids_at charset_at ids_from read_index toldIndex index_at table_at
    data_at run_of judged offsets pieces items_of num_at be dict_of gathered readings_at readings_from entry_at entry_from token_at operator_at number_at real_at normal zeros
    zeros_of stripped last_of last_from trunc_of list_of glyph_in
cid_fd = refl

-- the name goes to the front of the bytes, and the rest stays; four bytes are too few for it
space-written : leaves_name (within (told space (0 ∷ 1 ∷ 0 ∷ 5 ∷ [])) 6 4) (9 ∷ 9 ∷ 9 ∷ 9 ∷ 9 ∷ 9 ∷ []) ≡ space ++ (9 ∷ [])
unfolding put
space-written = refl

space_refused : result_of (within (told space (0 ∷ 1 ∷ 0 ∷ 5 ∷ [])) 4 4) ≡ Err Output
space_refused = refl

-- ---- many

-- of the names A and space the sheet's font has the second
two-names : names_found (read_font sheet) (0x41 ∷ space) (1 ∷ 5 ∷ []) ≡ found (65536 ∷ 1 ∷ [])
unfolding
    read_font read_table place_of set_at fonts_at font_at name_parts private_at ids_at coding_at encoding_got read_index toldIndex index_at table_at data_at run_of judged offsets pieces items_of
    num_at be dict_of gathered readings_at readings_from entry_at entry_from token_at operator_at number_at real_at normal zeros zeros_of stripped last_of last_from trunc_of list_of
    glyph_with_text string_text standard_string standard_strings standard_names codes same_text_lem sum_of names_by names_in
two-names = refl

-- a name of six bytes does not stand in five
long_name : names_found (read_font sheet) space (6 ∷ []) ≡ refusedMany Truncated
unfolding
    read_font read_table place_of set_at fonts_at font_at name_parts private_at ids_at coding_at encoding_got read_index toldIndex index_at table_at data_at run_of judged offsets pieces items_of
    num_at be dict_of gathered readings_at readings_from entry_at entry_from token_at operator_at number_at real_at normal zeros zeros_of stripped last_of last_from trunc_of list_of sum_of
    names_in
long_name = refl

-- the first glyph of CID 5 is 1, and no glyph has CID 1
four-cids : cids_found (read_font cid_font) (5 ∷ 1 ∷ 0 ∷ 5 ∷ []) ≡ found (1 ∷ 65536 ∷ 0 ∷ 1 ∷ [])
unfolding
    read_font read_table place_of set_at fonts_at font_at cid_parts privates_at private_at private_data locals_at fds_at fd_select_at all_below ids_at charset_at ids_from read_index toldIndex index_at table_at
    data_at run_of judged offsets pieces items_of num_at be dict_of gathered readings_at readings_from entry_at entry_from token_at operator_at number_at real_at normal zeros
    zeros_of stripped last_of last_from trunc_of list_of glyph_with_id
four-cids = refl
