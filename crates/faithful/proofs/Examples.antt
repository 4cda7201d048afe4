-- Demand 3 used: what the theorem gives for glyph 1 of document 01's font, for glyphs of a CID-keyed font with a mask in a subroutine, cut
-- in each of the three ways, and a record that lists the mask with another length alone, for which it gives nothing; and what the codes of the
-- first font's subset mean (document 02, Wish 4), of which cut_examples has more.
use Rattle.std.specs.Prelude.{ℕ, zero, suc, ◌≡◌, refl, true, false, List, [], ◌∷◌, ◌++◌, ltb, pos, length, take, Result, Ok, Some}
use Rattle.std.proofs.Common.{sym, ap, ◌∙◌, subst, inl, inr, arith, ltb-true}
use Rattle.std.proofs.lemmas.Bool.{false≢true}
use Rattle.octets.specs.Octets.{Octets, be, num_at}
use Rattle.octets.specs.Lists.{all_below}
use Rattle.octets.specs.PickLaws.{both_hold}
use Rattle.type2_number.specs.Number as t2
use Rattle.unfold.specs.Unfold as u
use Rattle.unfold.specs.Unfold.{Tok, Row, num, op, mask, local, global, entered, masked, plain}
use Rattle.prune.specs.Bodies.{empty, one}
use Rattle.prune.specs.StepLaws.{zero_one}
use Rattle.record.specs.Record.{rows_from, rows_of, lists}
use Rattle.index.specs.Index.{offsets, run_of, judged, data_at, table_at, index_at, pieces, items_of, told, read_index}
use Rattle.decimal.specs.Decimal.{zeros_of, zeros, stripped, normal, whole}
use Rattle.decimal.specs.Number.{real_at, number_at}
use Rattle.decimal.specs.Values.{trunc_of}
use Rattle.dict.specs.Dict.{token_at, operator_at, entry_from, entry_at, readings_from, readings_at, gathered, dict_of}
use Rattle.dict.specs.Lookup.{absent, last_from, last_of, cid_keyed}
use Rattle.charset.specs.Listed.{list_of}
use Rattle.charset.specs.Predefined.{standard_encoding}
use Rattle.strings.specs.Table.{standard_names}
use Rattle.strings.specs.Text.{codes, same_text_lem}
use Rattle.strings.specs.Strings.{string_text, standard_string, standard_strings}
use Rattle.find.specs.Find.{glyph_with_text}
use Rattle.opentype.specs.Opentype.{place_of}
use Rattle.cff.specs.Font.{standard, Program, empty_private, char_strings, read_table, read_font, set_at, fonts_at, font_at, name_parts, private_at, ids_at, coding_at, encoding_got}
use Rattle.cff.specs.Find.{work_size}
use Rattle.subset.specs.Kept.{is_in, those, fds_of, kept_of, used_fds}
use Rattle.subset.specs.Codes.{glyph_of, coded_by_lem, nothing, named, meant, kept_meant}
use Rattle.subset.specs.Subset.{matrix_of}
use Rattle.subset.specs.Cut.{Outcome, subset, cut_read, cut_with, cut_of}
use Rattle.subset.specs.Examples.{sheet, sheet_subset, the_sheet}
use Rattle.subset.specs.CidFont.{cid_font, cid_program, reads, reach, wrong_reach}
use Rattle.subset.proofs.CidExample.{renumbered_bytes, unrenumbered_bytes, renumbers, stubs, copies}
use Rattle.faithful.specs.Faithful.{unfolded, IsKept, found_for, Recorded, Holds, Faithful}
use Rattle.faithful.specs.Matrices.{matrix_for, KeepsMatrices, Scaled}
use Rattle.faithful.specs.Codes.{KeepsCodes}
use Rattle.faithful.proofs.AskedExample.{asked-kept}
use Rattle.faithful.proofs.UnlistedExample.{met_3, unlisted_3}
use Rattle.faithful.proofs.Theorem.{faithful, matrix_back, codes-back}
use Rattle.refusal.specs.declared.Refusal.{Refusal}
use Rattle.subset.specs.declared.Way.TheVariants.{Renumbered}

-- a list of numbers below 256
pub octets_of : (b : List ℕ) → all_below 256 b ≡ true → Octets b
unfolding all_below
octets_of [] e i = omega arith
octets_of (x ∷ xs) e zero = ltb-true x 256 (both_hold (ltb x 256) (all_below 256 xs) e).0
octets_of (x ∷ xs) e (suc i) = octets_of xs (both_hold (ltb x 256) (all_below 256 xs) e).1 i

-- ---- document 01's font

-- what it holds
abbrev sheet_program : Program
sheet_program =
    record {
      top = (record { op = char_strings; operands = whole 21 ∷ [] }) ∷ [];
      strings = [];
      globals = [];
      charstrings = (0x0e ∷ []) ∷ (0x0e ∷ []) ∷ [];
      ids = 0 ∷ 1 ∷ [];
      privates = empty_private ∷ [];
      fds = 0 ∷ 0 ∷ [];
      dicts = [];
      coding = standard;
    }

sheet-reads : read_font sheet ≡ Ok sheet_program
unfolding
    read_font read_table place_of set_at fonts_at font_at name_parts private_at ids_at coding_at encoding_got read_index told index_at table_at data_at run_of judged offsets pieces items_of num_at be dict_of
    gathered readings_at readings_from entry_at entry_from token_at operator_at number_at real_at normal zeros zeros_of stripped last_of last_from trunc_of list_of
sheet-reads = refl

sheet_octets : all_below 256 sheet ≡ true
unfolding all_below
sheet_octets = refl

asked_1 : is_in 1 (1 ∷ []) ≡ true
unfolding is_in
asked_1 = refl

-- glyph 1 is endchar alone, and meets nothing
sheet_unfolds : unfolded sheet_program 1 ≡ plain (op 14 ∷ []) []
unfolding u.unfold_glyph u.run_body u.walk u.step_at u.operator_at u.leave u.but u.target_of t2.number_at t2.rounded t2.keep24
sheet_unfolds = refl

pub none_octets : Octets []
none_octets i = omega arith

sheet_faithful : Faithful sheet (1 ∷ []) [] 1 (subset Renumbered sheet_subset)
sheet_faithful =
    subst (λ (o : Outcome). Faithful sheet (1 ∷ []) [] 1 o) the_sheet
    (faithful work_size false false sheet (0x41 ∷ []) (1 ∷ []) [] 1 8192 32768 (octets_of sheet sheet_octets) none_octets)

-- the subset holds glyph 1
sheet-held : Holds sheet_program 1 (op 14 ∷ []) sheet_subset
sheet-held =
    sheet_faithful sheet_program sheet-reads 1 (asked-kept sheet_program (1 ∷ []) 1 (omega arith) asked_1) (op 14 ∷ []) [] sheet_unfolds (inr empty)

-- its encoding asked for, which is the standard one: the same subset, in which code 32 is space and code 33, exclam, has no glyph
sheet-asked : cut_of false true sheet (0x41 ∷ []) (1 ∷ []) [] 1 8192 32768 ≡ subset Renumbered sheet_subset
unfolding cut_with coded_by_lem
sheet-asked =
    ap (λ (g : Result Program Refusal). cut_read work_size false true g (0x41 ∷ []) (1 ∷ []) [] 1 8192 32768) sheet-reads
    ∙ sym (ap (λ (g : Result Program Refusal). cut_read work_size false false g (0x41 ∷ []) (1 ∷ []) [] 1 8192 32768) sheet-reads) ∙ the_sheet

sheet-named : cid_keyed sheet_program.top ≡ false
unfolding last_of last_from
sheet-named = refl

code_32 : kept_meant sheet_program (kept_of 2 (1 ∷ [])) (glyph_of sheet_program standard 32) ≡ named (0x73 ∷ 0x70 ∷ 0x61 ∷ 0x63 ∷ 0x65 ∷ [])
unfolding glyph_of standard_encoding glyph_with_text string_text standard_string standard_strings standard_names same_text_lem codes those is_in
code_32 = refl

code_33 : kept_meant sheet_program (kept_of 2 (1 ∷ [])) (glyph_of sheet_program standard 33) ≡ nothing
unfolding glyph_of standard_encoding glyph_with_text string_text standard_string standard_strings standard_names same_text_lem codes those is_in
code_33 = refl

sheet-codes : (q : Program) × (read_font sheet_subset ≡ Ok q)
    × (meant q (glyph_of q q.coding 32) ≡ named (0x73 ∷ 0x70 ∷ 0x61 ∷ 0x63 ∷ 0x65 ∷ []))
    × (meant q (glyph_of q q.coding 33) ≡ nothing)
sheet-codes =
    let keeps : KeepsCodes true sheet (1 ∷ []) (subset Renumbered sheet_subset)
    = subst (KeepsCodes true sheet (1 ∷ [])) sheet-asked
    (codes-back work_size false true sheet (0x41 ∷ []) (1 ∷ []) [] 1 8192 32768 (octets_of sheet sheet_octets) none_octets) in
    let k = keeps refl sheet_program sheet-reads sheet-named in
    (k.0, k.1, k.2.codes 32 (omega arith) ∙ code_32, k.2.codes 33 (omega arith) ∙ code_33)

-- ---- a CID-keyed font

abbrev keep : List ℕ
keep = 1 ∷ 3 ∷ 4 ∷ []

font_octets : all_below 256 cid_font ≡ true
unfolding all_below
font_octets = refl

reach_octets : all_below 256 reach ≡ true
unfolding all_below
reach_octets = refl

wrong_octets : all_below 256 wrong_reach ≡ true
unfolding all_below
wrong_octets = refl

kept_1 : IsKept cid_program keep 1
unfolding is_in
kept_1 = asked-kept cid_program keep 1 (omega arith) refl

kept_3 : IsKept cid_program keep 3
unfolding is_in
kept_3 = asked-kept cid_program keep 3 (omega arith) refl

-- glyph 1: a stem, then in local subroutine 1 of FD 2 a move and, at offset 2, a mask of one byte
abbrev tokens_1 : List Tok
tokens_1 = num (pos 65536) ∷ num (pos 65536) ∷ op 1 ∷ num (pos 131072) ∷ op 22 ∷ mask 19 (0xff ∷ []) ∷ op 14 ∷ []

abbrev met_1 : List Row
met_1 = entered (local 2 1) ∷ masked (local 2 1) 2 1 ∷ []

unfolds_1 : unfolded cid_program 1 ≡ plain tokens_1 met_1
unfolding u.unfold_glyph u.run_body u.walk u.step_at u.operator_at u.leave u.but u.target_of t2.number_at t2.rounded t2.keep24
unfolds_1 = refl

-- glyph 3: a stem, then by local subroutine 1 of FD 0 in global subroutine 1 a mask
abbrev tokens_3 : List Tok
tokens_3 = num (pos 65536) ∷ num (pos 65536) ∷ op 1 ∷ mask 19 (0xff ∷ []) ∷ op 14 ∷ []

unfolds_3 : unfolded cid_program 3 ≡ plain tokens_3 met_3
unfolding u.unfold_glyph u.run_body u.walk u.step_at u.operator_at u.leave u.but u.target_of t2.number_at t2.rounded t2.keep24
unfolds_3 = refl

-- renumbered: the record lists what glyph 1 meets
listed_1 : Recorded reach 1 met_1
unfolding rows_of rows_from lists num_at be
listed_1 = inr (one refl (one refl empty))

renumbered-held : Holds cid_program 1 tokens_1 renumbered_bytes
renumbered-held =
    subst (λ (o : Outcome). Faithful cid_font keep reach 1 o) renumbers
    (faithful work_size true false cid_font (0x41 ∷ []) keep reach 1 8192 32768 (octets_of cid_font font_octets) (octets_of reach reach_octets))
    cid_program reads 1 kept_1 tokens_1 met_1 unfolds_1 listed_1

-- stubbed: a row more, of a subroutine that is not there
listed_3 : Recorded wrong_reach 1 met_3
unfolding rows_of rows_from lists num_at be
listed_3 = inr (one refl (one refl (one refl empty)))

stubbed-held : Holds cid_program 3 tokens_3 (unrenumbered_bytes 0x0b)
stubbed-held =
    subst (λ (o : Outcome). Faithful cid_font keep wrong_reach 1 o) stubs
    (faithful work_size true false cid_font (0x41 ∷ []) keep wrong_reach 1 8192 32768 (octets_of cid_font font_octets) (octets_of wrong_reach wrong_octets))
    cid_program reads 3 kept_3 tokens_3 met_3 unfolds_3 listed_3

-- copied: with flag 0 nothing need be listed (UnlistedExample)
copied-held : Holds cid_program 3 tokens_3 (unrenumbered_bytes 0x0e)
copied-held =
    subst (λ (o : Outcome). Faithful cid_font keep [] 0 o) copies
    (faithful work_size true false cid_font (0x41 ∷ []) keep [] 0 8192 32768 (octets_of cid_font font_octets) none_octets)
    cid_program reads 3 kept_3 tokens_3 met_3 unfolds_3 unlisted_3

-- ---- nothing is promised where the record lists the mask with another length alone

abbrev other_length : List ℕ
other_length = take 40 reach ++ (0x03 ∷ 0x02 ∷ 0x00 ∷ 0x01 ∷ 0x00 ∷ 0x00 ∷ 0x00 ∷ 0x02 ∷ 0x00 ∷ 0x02 ∷ [])

mask_unlisted : lists (rows_of other_length) (masked (local 2 1) 2 1) ≡ false
unfolding rows_of rows_from lists num_at be
mask_unlisted = refl

not_promised : Recorded other_length 1 met_1 → ⊥
not_promised (inl e) = zero_one (sym e)
not_promised (inr (one h (one m empty))) = false≢true (sym mask_unlisted ∙ m)

-- ---- Wish 2, on the same font, whose FDs have no FontMatrix

keyed : cid_keyed cid_program.top ≡ true
unfolding last_of last_from
keyed = refl

font-scaled : KeepsMatrices cid_program keep renumbered_bytes
font-scaled =
    subst (λ (o : Outcome). Scaled cid_font keep o) renumbers
    (matrix_back work_size true false cid_font (0x41 ∷ []) keep reach 1 8192 32768 (octets_of cid_font font_octets) (octets_of reach reach_octets))
    cid_program reads keyed

-- FDs 0 and 2 are in use
fds_used : used_fds cid_program (kept_of (length cid_program.charstrings) keep) ≡ 0 ∷ 2 ∷ []
unfolding is_in those fds_of
fds_used = refl

-- the second FD of the subset has none, and the FD of what is found for glyph 1 has none
second-fd : matrix_of font-scaled.program 1 ≡ absent
unfolding is_in those fds_of last_of last_from
second-fd = font-scaled.fds 1 (omega arith)

glyph_1 : (new : ℕ) × (found_for cid_program 1 renumbered_bytes ≡ Ok (Some new)) × (matrix_for font-scaled.program new ≡ absent)
unfolding last_of last_from
glyph_1 = font-scaled.glyphs 1 kept_1
