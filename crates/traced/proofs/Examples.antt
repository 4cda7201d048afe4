-- Worked examples, computed: each rule of the tracer on small fonts.
use Rattle.std.specs.Prelude.{ℕ, ◌≡◌, refl, List, [], ◌∷◌}
use Rattle.std.proofs.Common.{ap, ◌∙◌}
use Rattle.octets.specs.Octets.{be, num_at, bytes_of, put}
use Rattle.octets.specs.Lists.{all_below}
use Rattle.type2_number.specs.Number as t2
use Rattle.index.specs.Index.{offsets, run_of, judged, data_at, table_at, index_at, pieces, items_of, told, read_index}
use Rattle.decimal.specs.Decimal.{zeros_of, zeros, stripped, normal}
use Rattle.decimal.specs.Number.{real_at, number_at}
use Rattle.decimal.specs.Values.{trunc_of}
use Rattle.dict.specs.Dict as entries
use Rattle.dict.specs.Lookup.{last_from, last_of}
use Rattle.charset.specs.Listed.{list_of}
use Rattle.strings.specs.Table.{standard_names}
use Rattle.strings.specs.Text.{codes, same_text_lem}
use Rattle.strings.specs.Strings.{string_text, standard_string, standard_strings}
use Rattle.find.specs.Find.{glyph_with_id, glyph_with_text}
use Rattle.unfold.specs.Unfold.{leave, but, target_of, operator_at, step_at, walk, run_body, unfold_glyph}
use Rattle.opentype.specs.Opentype.{place_of}
use Rattle.cff.specs.Font.{standard, Program, private_at, ids_at, coding_at, encoding_got, name_parts, font_at, fonts_at, set_at, read_table, read_font}
use Rattle.cff.specs.Examples.{sheet}
use Rattle.subset.specs.Kept.{is_in, those}
use Rattle.subset.specs.Cut.{all_found_lem}
use Rattle.subset.specs.CidFont.{cid_font, cid_program, reads}
use Rattle.row_window.specs.Window.{placed, gathered, within}
use Rattle.row_window.specs.Key.{key_of_lem}
use Rattle.traced.specs.Parts.{masks_of}
use Rattle.traced.specs.Traced.{met_all, tens_bytes, record_of, refused, traced, trace_program, trace_read, trace_of, leaves_record}
use Rattle.refusal.specs.declared.Refusal.TheVariants.{NoSuchNumber, NotFound, Output}

-- ---- a name-keyed font

-- glyph 0 enters local subroutine 1; glyph 1 declares a stem, enters local subroutine 0, which has a mask, and has a mask of its own; glyph 2 is
-- not plain: it does not end; glyph 3 is empty; glyph 4 has the name of glyph 1
abbrev small : Program
small =
    record {
      top = [];
      strings = [];
      globals = [];
      charstrings =
          (0x21 ∷ 0x0a ∷ 0x0e ∷ []) ∷ (0x8b ∷ 0x8b ∷ 0x12 ∷ 0x20 ∷ 0x0a ∷ 0x13 ∷ 0x80 ∷ 0x0e ∷ []) ∷ (0x8b ∷ []) ∷ [] ∷ (0x0e ∷ []) ∷ [];
      ids = 0 ∷ 1 ∷ 2 ∷ 3 ∷ 1 ∷ [];
      privates = (record { entries = []; locals = (0x13 ∷ 0x80 ∷ 0x0b ∷ []) ∷ (0x0b ∷ []) ∷ [] }) ∷ [];
      fds = 0 ∷ 0 ∷ 0 ∷ 0 ∷ 0 ∷ [];
      dicts = [];
      coding = standard;
    }

-- the rows of glyphs 0 and 1: locals 0 and 1 entered, the mask of glyph 1 at offset 5, that of local 0 at offset 0
abbrev rows : List ℕ
rows =
    0x00 ∷ 0x00 ∷ 0x00 ∷ 0x00 ∷ 0x00 ∷ 0x00 ∷ 0x00 ∷ 0x00 ∷ 0x00 ∷ 0x00
    ∷ 0x00 ∷ 0x00 ∷ 0x00 ∷ 0x01 ∷ 0x00 ∷ 0x00 ∷ 0x00 ∷ 0x00 ∷ 0x00 ∷ 0x00
    ∷ 0x02 ∷ 0x00 ∷ 0x00 ∷ 0x01 ∷ 0x00 ∷ 0x00 ∷ 0x00 ∷ 0x05 ∷ 0x00 ∷ 0x01
    ∷ 0x03 ∷ 0x00 ∷ 0x00 ∷ 0x00 ∷ 0x00 ∷ 0x00 ∷ 0x00 ∷ 0x00 ∷ 0x00 ∷ 0x01 ∷ []

traces : trace_program small (1 ∷ []) 40 ≡ traced 1 rows
unfolding
    met_all record_of tens_bytes gathered placed unfold_glyph run_body walk step_at operator_at leave but target_of t2.number_at t2.rounded t2.keep24 bytes_of be all_below
    all_found_lem glyph_with_text string_text standard_string standard_strings codes same_text_lem standard_names is_in those last_of last_from normal stripped zeros zeros_of trunc_of
traces = refl

-- an empty glyph meets nothing; the order of the keep list and repeats do not matter; glyph 0 may be named
repeated : trace_program small (3 ∷ 1 ∷ 0 ∷ 1 ∷ []) 40 ≡ traced 1 rows
unfolding
    met_all record_of tens_bytes gathered placed unfold_glyph run_body walk step_at operator_at leave but target_of t2.number_at t2.rounded t2.keep24 bytes_of be all_below
    all_found_lem glyph_with_text string_text standard_string standard_strings codes same_text_lem standard_names is_in those last_of last_from normal stripped zeros zeros_of trunc_of
repeated = refl

-- glyph 0 is kept though nothing is asked for
glyph_zero : trace_program small [] 10 ≡ traced 1 (0x00 ∷ 0x00 ∷ 0x00 ∷ 0x01 ∷ 0x00 ∷ 0x00 ∷ 0x00 ∷ 0x00 ∷ 0x00 ∷ 0x00 ∷ [])
unfolding
    met_all record_of tens_bytes gathered placed unfold_glyph run_body walk step_at operator_at leave but target_of t2.number_at t2.rounded t2.keep24 bytes_of be all_below
    all_found_lem glyph_with_text string_text standard_string standard_strings codes same_text_lem standard_names is_in those last_of last_from normal stripped zeros zeros_of trunc_of
glyph_zero = refl

-- one byte too few
too_long : trace_program small (1 ∷ []) 39 ≡ refused Output
unfolding
    met_all record_of tens_bytes gathered placed unfold_glyph run_body walk step_at operator_at leave but target_of t2.number_at t2.rounded t2.keep24 bytes_of be all_below
    all_found_lem glyph_with_text string_text standard_string standard_strings codes same_text_lem standard_names is_in those last_of last_from normal stripped zeros zeros_of trunc_of
too_long = refl

-- a kept glyph that is not plain: flag 0 with an empty record, whatever the room
not_plain : trace_program small (1 ∷ 2 ∷ []) 0 ≡ traced 0 []
unfolding
    met_all record_of tens_bytes gathered placed unfold_glyph run_body walk step_at operator_at leave but target_of t2.number_at t2.rounded t2.keep24 bytes_of be all_below
    all_found_lem glyph_with_text string_text standard_string standard_strings codes same_text_lem standard_names is_in those last_of last_from normal stripped zeros zeros_of trunc_of
not_plain = refl

-- a number past the font comes first, then a glyph that finding would not give, both before the flag
past-font : trace_program small (4 ∷ 2 ∷ 5 ∷ []) 40 ≡ refused NoSuchNumber
unfolding
    met_all record_of tens_bytes gathered placed unfold_glyph run_body walk step_at operator_at leave but target_of t2.number_at t2.rounded t2.keep24 bytes_of be all_below
    all_found_lem glyph_with_text string_text standard_string standard_strings codes same_text_lem standard_names is_in those last_of last_from normal stripped zeros zeros_of trunc_of
past-font = refl

-- finding gives glyph 1 for the name of glyph 4
not_found : trace_program small (2 ∷ 4 ∷ []) 40 ≡ refused NotFound
unfolding
    met_all record_of tens_bytes gathered placed unfold_glyph run_body walk step_at operator_at leave but target_of t2.number_at t2.rounded t2.keep24 bytes_of be all_below
    all_found_lem glyph_with_text string_text standard_string standard_strings codes same_text_lem standard_names is_in those last_of last_from normal stripped zeros zeros_of trunc_of
not_found = refl

-- of the masks only glyph 1's own is of kind 2
own-mask : masks_of small (0 ∷ 1 ∷ []) ≡ key_of_lem 2 0 1 5 1 ∷ []
unfolding
    masks_of gathered placed within unfold_glyph run_body walk step_at operator_at leave but target_of t2.number_at t2.rounded t2.keep24
own-mask = refl

-- bytes behind the record stay; a refused call leaves all
behind : leaves_record (traced 1 (7 ∷ 8 ∷ [])) (1 ∷ 2 ∷ 3 ∷ []) ≡ 7 ∷ 8 ∷ 3 ∷ []
unfolding put
behind = refl

untouched : leaves_record (refused Output) (1 ∷ 2 ∷ 3 ∷ []) ≡ 1 ∷ 2 ∷ 3 ∷ []
untouched = refl

-- ---- a CID-keyed font

-- glyphs 1, 3 and 4 of `cid_font`: local 1 of FD 0 and of FD 2, global 1, and the masks of the latter two
abbrev cid_rows : List ℕ
cid_rows =
    0x00 ∷ 0x00 ∷ 0x00 ∷ 0x01 ∷ 0x00 ∷ 0x00 ∷ 0x00 ∷ 0x00 ∷ 0x00 ∷ 0x00
    ∷ 0x00 ∷ 0x02 ∷ 0x00 ∷ 0x01 ∷ 0x00 ∷ 0x00 ∷ 0x00 ∷ 0x00 ∷ 0x00 ∷ 0x00
    ∷ 0x01 ∷ 0x00 ∷ 0x00 ∷ 0x01 ∷ 0x00 ∷ 0x00 ∷ 0x00 ∷ 0x00 ∷ 0x00 ∷ 0x00
    ∷ 0x03 ∷ 0x02 ∷ 0x00 ∷ 0x01 ∷ 0x00 ∷ 0x00 ∷ 0x00 ∷ 0x02 ∷ 0x00 ∷ 0x01
    ∷ 0x04 ∷ 0x00 ∷ 0x00 ∷ 0x01 ∷ 0x00 ∷ 0x00 ∷ 0x00 ∷ 0x00 ∷ 0x00 ∷ 0x01 ∷ []

cid-rows : trace_program cid_program (4 ∷ 1 ∷ 3 ∷ []) 50 ≡ traced 1 cid_rows
unfolding
    met_all record_of tens_bytes gathered placed unfold_glyph run_body walk step_at operator_at leave but target_of t2.number_at t2.rounded t2.keep24 bytes_of be all_below
    all_found_lem glyph_with_id is_in those last_of last_from normal stripped zeros zeros_of trunc_of
cid-rows = refl

-- from its bytes
cid_traces : trace_of cid_font (4 ∷ 1 ∷ 3 ∷ []) 50 ≡ traced 1 cid_rows
unfolding trace_of
cid_traces = ap (λ g. trace_read g (4 ∷ 1 ∷ 3 ∷ []) 50) reads ∙ cid-rows

-- ---- document 01's font

-- a font of two glyphs, each endchar alone: the record is empty, flag 1
sheet_traces : trace_of sheet (1 ∷ []) 0 ≡ traced 1 []
unfolding
    trace_of met_all record_of tens_bytes gathered unfold_glyph run_body walk step_at operator_at leave but target_of t2.number_at t2.rounded t2.keep24 bytes_of all_below
    all_found_lem glyph_with_text string_text standard_string standard_strings codes same_text_lem standard_names is_in those read_font read_table place_of set_at fonts_at font_at name_parts ids_at
    private_at coding_at encoding_got read_index told index_at table_at data_at run_of judged offsets pieces items_of num_at be entries.dict_of entries.gathered entries.readings_at entries.readings_from
    entries.entry_at entries.entry_from entries.token_at entries.operator_at number_at real_at normal zeros zeros_of stripped last_of last_from trunc_of list_of
sheet_traces = refl
