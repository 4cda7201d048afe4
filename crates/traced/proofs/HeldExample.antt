-- The theorems used (document 02, Wish 1): a name-keyed font traced, and then cut with what was traced. The record is that of the Rust's trace, the
-- subset that of its `subset`; each premise is one that holds.
use Rattle.std.specs.Prelude.{ℕ, zero, suc, ◌≡◌, refl, Bool, true, false, List, [], ◌∷◌, map, ltb, eqb, pos, Ok}
use Rattle.std.proofs.Common.{sym, ap, ◌∙◌, inr, arith, ltb-true}
use Rattle.octets.specs.Pick.{pick}
use Rattle.octets.specs.Octets.{Octets, be, num_at, bytes_of}
use Rattle.octets.specs.PickLaws.{both_hold}
use Rattle.octets.specs.Lists.{all_below}
use Rattle.type2_number.specs.Number as t2
use Rattle.index.specs.Index.{offsets, run_of, judged, data_at, table_at, index_at, pieces, items_of, told, read_index}
use Rattle.decimal.specs.Decimal.{zeros_of, zeros, stripped, normal, whole}
use Rattle.decimal.specs.Number.{real_at, number_at}
use Rattle.decimal.specs.Values.{trunc_of}
use Rattle.dict.specs.Dict as entries
use Rattle.dict.specs.Lookup.{last_from, last_of}
use Rattle.charset.specs.Listed.{list_of}
use Rattle.strings.specs.Table.{standard_names}
use Rattle.strings.specs.Text.{codes, same_text_lem}
use Rattle.strings.specs.Strings.{string_text, standard_string, standard_strings}
use Rattle.find.specs.Find.{glyph_with_text}
use Rattle.unfold.specs.Unfold.{Tok, num, op, Row, not_plain_lem, plain, local, entered, leave, but, target_of, operator_at, step_at, walk, run_body, unfold_glyph}
use Rattle.prune.specs.Bodies.{All}
use Rattle.record.specs.Record.{rows_from, rows_of, record_fine, lists}
use Rattle.opentype.specs.Opentype.{place_of}
use Rattle.cff.specs.Font.{standard, Program, char_strings, private_at, ids_at, coding_at, encoding_got, name_parts, font_at, fonts_at, set_at, read_table, read_font, empty_private}
use Rattle.subset.specs.Kept.{is_in, those, keeps}
use Rattle.subset.specs.Cut.{all_found_lem}
use Rattle.subset.proofs.NameExample.{name_font, name_program, reads, reach, renumbered_bytes, renumbers}
use Rattle.row_window.specs.Window.{placed, gathered, Rising}
use Rattle.faithful.specs.Faithful.{unfolded, IsKept, Holds}
use Rattle.traced.specs.Traced.{met_all, row_key, tens_bytes, record_of, traced, trace_program, trace_read, trace_of}
use Rattle.traced.proofs.MetLaws.{Meets}
use Rattle.traced.proofs.Theorem.{trace_flag, trace_lists, trace_met, trace_rises, trace_fine, trace_held, trace_keeps}
use Rattle.subset.specs.declared.Way.TheVariants.{Renumbered}

-- glyphs 1 and 2
abbrev pub keep : List ℕ
keep = 1 ∷ 2 ∷ []

pub octets_of : (b : List ℕ) → all_below 256 b ≡ true → Octets b
unfolding all_below
octets_of [] e i = omega arith
octets_of (x ∷ b) e zero = ltb-true x 256 (both_hold (ltb x 256) (all_below 256 b) e).0
octets_of (x ∷ b) e (suc i) = octets_of b (both_hold (ltb x 256) (all_below 256 b) e).1 i

pub bytes : Octets name_font
unfolding all_below
bytes = octets_of name_font refl

-- it is traced to the record of the Rust
program_traces : trace_program name_program keep 20 ≡ traced 1 reach
unfolding
    met_all record_of tens_bytes gathered placed unfold_glyph run_body walk step_at operator_at leave but target_of t2.number_at t2.rounded t2.keep24 bytes_of num_at be all_below
    all_found_lem glyph_with_text string_text standard_string standard_strings codes same_text_lem standard_names is_in those last_of last_from normal stripped zeros zeros_of trunc_of
program_traces = refl

pub traces : trace_of name_font keep 20 ≡ traced 1 reach
unfolding trace_of
traces = ap (λ g. trace_read g keep 20) reads ∙ program_traces

-- glyph 2 is kept, and unfolds
pub kept : IsKept name_program keep 2
unfolding is_in
kept = record { there = omega arith; asked = inr refl }

abbrev tokens : List Tok
tokens = num (pos 131072) ∷ op 22 ∷ op 14 ∷ []

abbrev met : List Row
met = entered (local 0 3) ∷ entered (local 0 1) ∷ []

unfolds : unfolded name_program 2 ≡ plain tokens met
unfolding unfold_glyph run_body walk step_at operator_at leave but target_of t2.number_at t2.rounded t2.keep24 num_at be
unfolds = refl

-- each row that it meets is listed; each row listed is met
listed : All (λ r. lists (rows_of reach) r ≡ true) met
listed = trace_lists name_font keep 20 bytes name_program reads reach traces 2 kept tokens met unfolds

met_by : (g : ℕ) × IsKept name_program keep g × Meets name_program g (entered (local 0 1))
unfolding lists rows_of rows_from num_at be
met_by = trace_met name_font keep 20 bytes name_program reads reach traces (entered (local 0 1)) refl

-- the rows rise, and are of the right form
rises : Rising (map row_key (rows_of reach))
rises = trace_rises name_font keep 20 bytes name_program reads 1 reach traces

fine : record_fine false reach 1 ≡ true
unfolding last_of last_from
fine = trace_fine name_font keep 20 bytes name_program reads 1 reach traces

-- the subset cut with the record holds the glyph
held : Holds name_program 2 tokens renumbered_bytes
held =
    trace_held name_font keep 20 bytes name_program reads 1 reach traces false false (0x4e ∷ []) 8192 32768 Renumbered renumbered_bytes renumbers 2 kept tokens met unfolds

-- the keep list in another order, with a repeat
same : (g : ℕ) → keeps keep g ≡ keeps (2 ∷ 1 ∷ 2 ∷ []) g
unfolding is_in
same g = by (eqb g 0) (eqb 1 g) (eqb 2 g)
  where
    by : (z a b : Bool) → pick z true (pick a true (pick b true false)) ≡ pick z true (pick b true (pick a true (pick b true false)))
    by true a b = refl
    by false true true = refl
    by false true false = refl
    by false false true = refl
    by false false false = refl

reordered : trace_of name_font (2 ∷ 1 ∷ 2 ∷ []) 20 ≡ traced 1 reach
reordered = sym (trace_keeps name_font keep (2 ∷ 1 ∷ 2 ∷ []) 20 bytes same) ∙ traces

-- ---- flag 0

-- document 01's font, but for its last byte: glyph 1 is operator 0, which is not plain
abbrev bad_font : List ℕ
bad_font =
    0x01 ∷ 0x00 ∷ 0x04 ∷ 0x01 ∷ 0x00 ∷ 0x01 ∷ 0x01 ∷ 0x01 ∷ 0x02 ∷ 0x58 ∷ 0x00 ∷ 0x01 ∷ 0x01 ∷ 0x01 ∷ 0x03 ∷ 0xa0 ∷ 0x11 ∷ 0x00 ∷ 0x00 ∷ 0x00 ∷ 0x00
    ∷ 0x00 ∷ 0x02 ∷ 0x01 ∷ 0x01 ∷ 0x02 ∷ 0x03 ∷ 0x0e ∷ 0x00 ∷ []

abbrev bad_program : Program
bad_program =
    record {
      top = (record { op = char_strings; operands = whole 21 ∷ [] }) ∷ [];
      strings = [];
      globals = [];
      charstrings = (0x0e ∷ []) ∷ (0x00 ∷ []) ∷ [];
      ids = 0 ∷ 1 ∷ [];
      privates = empty_private ∷ [];
      fds = 0 ∷ 0 ∷ [];
      dicts = [];
      coding = standard;
    }

bad-reads : read_font bad_font ≡ Ok bad_program
unfolding
    read_font read_table place_of set_at fonts_at font_at name_parts ids_at private_at coding_at encoding_got read_index told index_at table_at data_at run_of judged offsets pieces items_of num_at be entries.dict_of
    entries.gathered entries.readings_at entries.readings_from entries.entry_at entries.entry_from entries.token_at entries.operator_at number_at real_at normal zeros zeros_of
    stripped last_of last_from trunc_of list_of
bad-reads = refl

bad-program : trace_program bad_program (1 ∷ []) 0 ≡ traced 0 []
unfolding
    met_all unfold_glyph run_body walk step_at operator_at leave but target_of t2.number_at t2.rounded t2.keep24 all_below all_found_lem glyph_with_text string_text standard_string
    standard_strings codes same_text_lem standard_names is_in those last_of last_from normal stripped zeros zeros_of trunc_of
bad-program = refl

bad_traces : trace_of bad_font (1 ∷ []) 0 ≡ traced 0 []
unfolding trace_of
bad_traces = ap (λ g. trace_read g (1 ∷ []) 0) bad-reads ∙ bad-program

bad-bytes : Octets bad_font
unfolding all_below
bad-bytes = octets_of bad_font refl

-- a kept glyph is not plain
not_plain : (g : ℕ) × IsKept bad_program (1 ∷ []) g × (unfolded bad_program g ≡ not_plain_lem)
not_plain = (trace_flag bad_font (1 ∷ []) 0 bad-bytes bad_program bad-reads [] bad_traces).1
