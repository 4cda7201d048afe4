-- Worked examples, computed: the font of document 01, 'One sheet, whole', and what its damaged copies answer.
use Rattle.std.specs.Prelude.{ℕ, ◌≡◌, refl, false, List, [], ◌∷◌, ◌++◌, take, drop, Ok, Err}
use Rattle.octets.specs.Octets.{be, num_at}
use Rattle.index.specs.Index.{offsets, run_of, judged, data_at, table_at, index_at, pieces, items_of, told, read_index}
use Rattle.decimal.specs.Decimal.{zeros_of, zeros, stripped, normal}
use Rattle.decimal.specs.Number.{real_at, number_at}
use Rattle.decimal.specs.Values.{trunc_of}
use Rattle.dict.specs.Dict.{token_at, operator_at, entry_from, entry_at, readings_from, readings_at, gathered, dict_of}
use Rattle.dict.specs.Lookup.{last_from, last_of}
use Rattle.charset.specs.Listed.{list_of}
use Rattle.opentype.specs.Opentype.{row_from_lem, place_of}
use Rattle.cff.specs.Font.{private_at, ids_at, coding_at, encoding_got, name_parts, font_at, fonts_at, set_at, read_table, read_font}
use Rattle.cff.specs.Find.{locals_words, read_as, item_of}
use Rattle.cff.specs.declared.ItemKind.TheVariants.{Charstring}
use Rattle.refusal.specs.declared.Refusal.TheVariants.{Truncated, Malformed, Unsupported, NoTable}

-- header, the name X, a top DICT with CharStrings at 21, no strings, no globals, and two charstrings
abbrev pub sheet : List ℕ
sheet =
    0x01 ∷ 0x00 ∷ 0x04 ∷ 0x01 ∷ 0x00 ∷ 0x01 ∷ 0x01 ∷ 0x01 ∷ 0x02 ∷ 0x58 ∷ 0x00 ∷ 0x01 ∷ 0x01 ∷ 0x01 ∷ 0x03 ∷ 0xa0 ∷ 0x11 ∷ 0x00 ∷ 0x00 ∷ 0x00 ∷ 0x00
    ∷ 0x00 ∷ 0x02 ∷ 0x01 ∷ 0x01 ∷ 0x02 ∷ 0x03 ∷ 0x0e ∷ 0x0e ∷ []

sheet-read : read_as (read_font sheet) ≡ Ok (record { glyphs = 2; globals = 0; strings = 0; cid = false; work = 4 })
unfolding
    read_font read_table place_of set_at fonts_at font_at name_parts private_at ids_at coding_at encoding_got read_index told index_at table_at data_at run_of judged offsets pieces items_of num_at be dict_of
    gathered readings_at readings_from entry_at entry_from token_at operator_at number_at real_at normal zeros zeros_of stripped last_of last_from trunc_of list_of locals_words
sheet-read = refl

-- item 1 of the charstrings, and 6 where there is none
sheet-item : item_of (read_font sheet) Charstring 1 ≡ 0x0e ∷ []
unfolding
    read_font read_table place_of set_at fonts_at font_at name_parts private_at ids_at coding_at encoding_got read_index told index_at table_at data_at run_of judged offsets pieces items_of num_at be dict_of
    gathered readings_at readings_from entry_at entry_from token_at operator_at number_at real_at normal zeros zeros_of stripped last_of last_from trunc_of list_of locals_words
sheet-item = refl

-- the charstrings' offsets begin at 2: malformed (document 02, Wish 5)
charstrings-at-two : read_as (read_font (take 24 sheet ++ (2 ∷ 3 ∷ 4 ∷ 0x00 ∷ 0x0e ∷ 0x0e ∷ []))) ≡ Err Malformed
unfolding
    read_font read_table place_of set_at fonts_at font_at name_parts private_at ids_at coding_at encoding_got read_index told index_at table_at data_at run_of judged offsets pieces items_of num_at be dict_of
    gathered readings_at readings_from entry_at entry_from token_at operator_at number_at real_at normal zeros zeros_of stripped last_of last_from trunc_of list_of locals_words
charstrings-at-two = refl

-- cut off in the last charstring, in the header; another version; nothing
sheet-cut : read_as (read_font (take 28 sheet)) ≡ Err Truncated
unfolding
    read_font read_table place_of set_at fonts_at font_at name_parts private_at ids_at coding_at encoding_got read_index told index_at table_at data_at run_of judged offsets pieces items_of num_at be dict_of
    gathered readings_at readings_from entry_at entry_from token_at operator_at number_at real_at normal zeros zeros_of stripped last_of last_from trunc_of list_of locals_words
sheet-cut = refl

version_2 : read_as (read_font (2 ∷ 0 ∷ 4 ∷ 1 ∷ [])) ≡ Err Unsupported
unfolding read_font read_table place_of num_at be
version_2 = refl

short : read_as (read_font (2 ∷ 0 ∷ 4 ∷ [])) ≡ Err Truncated
unfolding read_font read_table place_of num_at be
short = refl

-- ---- document 01's font in an OpenType file (document 02, Wish 9): its table stands at 30, between other bytes

abbrev pub sheet_file : List ℕ
sheet_file =
    0x4f ∷ 0x54 ∷ 0x54 ∷ 0x4f ∷ 0x00 ∷ 0x01 ∷ 0x00 ∷ 0x00 ∷ 0x00 ∷ 0x00 ∷ 0x00 ∷ 0x00
    ∷ 0x43 ∷ 0x46 ∷ 0x46 ∷ 0x20 ∷ 0x00 ∷ 0x00 ∷ 0x00 ∷ 0x00 ∷ 0x00 ∷ 0x00 ∷ 0x00 ∷ 0x1e ∷ 0x00 ∷ 0x00 ∷ 0x00 ∷ 0x1d ∷ 0xaa ∷ 0xbb ∷ (sheet ++ (0xcc ∷ []))

-- it is read as the table is: its offsets count from the table's start, and end with the table
file_read : read_font sheet_file ≡ read_font sheet
unfolding read_font place_of row_from_lem num_at be
file_read = refl

-- a byte less of the table, which is the file's last bytes, and it is cut off; without the blank in the tag there is no table
file_cut : read_as (read_font (take 58 sheet_file)) ≡ Err Truncated
unfolding read_font place_of row_from_lem num_at be
file_cut = refl

file_of_another : read_as (read_font (take 15 sheet_file ++ (0x32 ∷ drop 16 sheet_file))) ≡ Err NoTable
unfolding read_font place_of row_from_lem num_at be
file_of_another = refl
