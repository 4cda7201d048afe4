-- Worked examples, computed: a font of five glyphs, of which 2 and 3 have dead code that calls a subroutine that is not there, so that they cannot be
-- renumbered, and 4 is not plain.
use Rattle.std.specs.Prelude.{ℕ, ◌≡◌, refl, true, false, List, [], ◌∷◌, Ok, Some, None}
use Rattle.std.proofs.Common.{◌∙◌, arith}
use Rattle.octets.specs.Octets.{be, num_at, bytes_of}
use Rattle.octets.specs.Lists.{all_below, joined}
use Rattle.bits.specs.Bits.{count_below}
use Rattle.type2_number.specs.Number as t2
use Rattle.type2_number.specs.Encoding as t2e
use Rattle.charstring.specs.Token as tok
use Rattle.charstring.specs.Encode.{encode}
use Rattle.index.specs.Write.{total, size_for, ends, table_bytes, head_bytes, items_bytes, index_bytes}
use Rattle.decimal.specs.Decimal.{zeros_of, zeros, stripped, normal}
use Rattle.decimal.specs.Values.{trunc_of}
use Rattle.decimal.specs.Written.{int5_bytes, number_bytes, int_bytes}
use Rattle.dict.specs.Lookup.{last_from, last_of}
use Rattle.dict_write.specs.Written.{copied_entry, op_bytes_lem, operands_bytes, entry_bytes, entries_bytes, offset_entry, private_entry}
use Rattle.dict_write.specs.Written as entries
use Rattle.charset.specs.CharsetBytes.{id_bytes, charset_bytes}
use Rattle.strings.specs.Table.{standard_names}
use Rattle.strings.specs.Text.{codes, same_text_lem}
use Rattle.strings.specs.Strings.{string_text, standard_string, standard_strings, sid_in, sid_of}
use Rattle.find.specs.Find.{glyph_with_text}
use Rattle.unfold.specs.Unfold.{leave, but, target_of, operator_at, step_at, walk, run_body, unfold_glyph}
use Rattle.record.specs.Record.{rows_from, rows_of, rows_fine_lem, record_fine, lists, given_in, disagrees, two_lengths_lem}
use Rattle.prune.specs.Renumber.{renumber, renumber_charstring}
use Rattle.cff.specs.Font.{standard, Program, empty_private}
use Rattle.cff.specs.Find.{locals_words}
use Rattle.subset.specs.Kept.{is_in, those, fds_of}
use Rattle.subset.specs.Pruned.{each, mapped, renumbered_body, renumbered_subrs, renumbered, stubbed_from, stubbed, copied, pruned}
use Rattle.subset.specs.Texts.{has_text, own_strings_lem, place_in, new_id, named_entries, texts_of, names_of}
use Rattle.subset.specs.Subset.{named_bytes, copied_bytes, new_ids, subset_by_name, subset_bytes}
use Rattle.subset.specs.Cut.{all_found_lem}
use Rattle.subset.specs.ReachedLaws.{count_past}
use Rattle.row_window.specs.Window.{placed, gathered}
use Rattle.traced.specs.Traced.{met_all, tens_bytes, record_of}
use Rattle.culprit.specs.Culprit.{traced_cut, without, has_way, is_culprit, culprit_in}
use Rattle.culprit.proofs.Theorem.{Least, blocking_least, is_least, blocking_none, other_way, has-way}
use Rattle.subset.specs.declared.Way.TheVariants.{Renumbered, Stubbed, Copied}

abbrev small : Program
small =
    record {
      top = [];
      strings = [];
      globals = [];
      charstrings = (0x0e ∷ []) ∷ (0x0e ∷ []) ∷ (0x0e ∷ 0x8b ∷ 0x0a ∷ []) ∷ (0x0e ∷ 0x8b ∷ 0x0a ∷ []) ∷ (0x8b ∷ []) ∷ [];
      ids = 0 ∷ 1 ∷ 2 ∷ 3 ∷ 4 ∷ [];
      privates = empty_private ∷ [];
      fds = 0 ∷ 0 ∷ 0 ∷ 0 ∷ 0 ∷ [];
      dicts = [];
      coding = standard;
    }

abbrev name : List ℕ
name = 0x4e ∷ []

-- no subroutine is reached
none-reached : count_below (λ k. false) 65536 ≡ 0
unfolding count_below
none-reached = count_past (λ k. false) 0 65536 (λ k h. refl) (omega arith)

none_below : count_below (λ k. false) 0 ≡ 0
unfolding count_below
none_below = refl

-- ---- ways

-- glyph 1 alone is renumbered
way_0 : has_way Renumbered (traced_cut small name (1 ∷ []) 8192 0) ≡ true
unfolding
    traced_cut met_all record_of tens_bytes gathered placed unfold_glyph run_body walk step_at operator_at leave but target_of t2.number_at t2.rounded t2.keep24 bytes_of num_at be all_below
    all_found_lem glyph_with_text string_text standard_string standard_strings codes same_text_lem standard_names is_in those fds_of last_of last_from normal stripped zeros zeros_of trunc_of locals_words
    record_fine rows_fine_lem rows_of rows_from pruned renumbered renumbered_subrs renumbered_body each mapped stubbed stubbed_from lists given_in two_lengths_lem disagrees renumber_charstring renumber
    encode t2e.number_bytes t2e.integer_bytes t2e.fixed_bytes tok.tokens_of tok.tokens_from tok.token_at subset_bytes subset_by_name new_ids copied_bytes named_bytes names_of texts_of named_entries
    new_id place_in own_strings_lem has_text sid_of sid_in charset_bytes id_bytes op_bytes_lem operands_bytes entry_bytes entries_bytes offset_entry copied_entry private_entry entries.without
    int5_bytes number_bytes int_bytes index_bytes items_bytes head_bytes table_bytes ends size_for joined total
way_0 = simp (none-reached, none_below)

-- a list with glyph 2 is stubbed
way_1 : has_way Stubbed (traced_cut small name (1 ∷ 2 ∷ []) 8192 0) ≡ true
unfolding
    traced_cut met_all record_of tens_bytes gathered placed unfold_glyph run_body walk step_at operator_at leave but target_of t2.number_at t2.rounded t2.keep24 bytes_of num_at be all_below
    all_found_lem glyph_with_text string_text standard_string standard_strings codes same_text_lem standard_names is_in those fds_of last_of last_from normal stripped zeros zeros_of trunc_of locals_words
    record_fine rows_fine_lem rows_of rows_from pruned renumbered renumbered_subrs renumbered_body each mapped stubbed stubbed_from lists given_in two_lengths_lem disagrees renumber_charstring renumber
    encode t2e.number_bytes t2e.integer_bytes t2e.fixed_bytes tok.tokens_of tok.tokens_from tok.token_at subset_bytes subset_by_name new_ids copied_bytes named_bytes names_of texts_of named_entries
    new_id place_in own_strings_lem has_text sid_of sid_in charset_bytes id_bytes op_bytes_lem operands_bytes entry_bytes entries_bytes offset_entry copied_entry private_entry entries.without
    int5_bytes number_bytes int_bytes index_bytes items_bytes head_bytes table_bytes ends size_for joined total
way_1 = simp (none-reached, none_below)

alone_1 : has_way Renumbered (traced_cut small name (2 ∷ []) 8192 0) ≡ false
unfolding
    traced_cut met_all record_of tens_bytes gathered placed unfold_glyph run_body walk step_at operator_at leave but target_of t2.number_at t2.rounded t2.keep24 bytes_of num_at be all_below
    all_found_lem glyph_with_text string_text standard_string standard_strings codes same_text_lem standard_names is_in those fds_of last_of last_from normal stripped zeros zeros_of trunc_of locals_words
    record_fine rows_fine_lem rows_of rows_from pruned renumbered renumbered_subrs renumbered_body each mapped stubbed stubbed_from lists given_in two_lengths_lem disagrees renumber_charstring renumber
    encode t2e.number_bytes t2e.integer_bytes t2e.fixed_bytes tok.tokens_of tok.tokens_from tok.token_at subset_bytes subset_by_name new_ids copied_bytes named_bytes names_of texts_of named_entries
    new_id place_in own_strings_lem has_text sid_of sid_in charset_bytes id_bytes op_bytes_lem operands_bytes entry_bytes entries_bytes offset_entry copied_entry private_entry entries.without
    int5_bytes number_bytes int_bytes index_bytes items_bytes head_bytes table_bytes ends size_for joined total
alone_1 = simp (none-reached, none_below)

-- one with glyph 4 is copied
way_2 : has_way Copied (traced_cut small name (1 ∷ 2 ∷ 4 ∷ []) 8192 0) ≡ true
unfolding
    traced_cut met_all record_of tens_bytes gathered placed unfold_glyph run_body walk step_at operator_at leave but target_of t2.number_at t2.rounded t2.keep24 bytes_of num_at be all_below
    all_found_lem glyph_with_text string_text standard_string standard_strings codes same_text_lem standard_names is_in those fds_of last_of last_from normal stripped zeros zeros_of trunc_of locals_words
    record_fine rows_fine_lem rows_of rows_from pruned renumbered renumbered_subrs renumbered_body each mapped copied stubbed stubbed_from lists given_in two_lengths_lem disagrees renumber_charstring renumber
    encode t2e.number_bytes t2e.integer_bytes t2e.fixed_bytes tok.tokens_of tok.tokens_from tok.token_at subset_bytes subset_by_name new_ids copied_bytes named_bytes names_of texts_of named_entries
    new_id place_in own_strings_lem has_text sid_of sid_in charset_bytes id_bytes op_bytes_lem operands_bytes entry_bytes entries_bytes offset_entry copied_entry private_entry entries.without
    int5_bytes number_bytes int_bytes index_bytes items_bytes head_bytes table_bytes ends size_for joined total
way_2 = refl

-- with glyphs 2 and 3, and without any one
both_1 : has_way Stubbed (traced_cut small name (1 ∷ 2 ∷ 3 ∷ []) 8192 0) ≡ true
unfolding
    traced_cut met_all record_of tens_bytes gathered placed unfold_glyph run_body walk step_at operator_at leave but target_of t2.number_at t2.rounded t2.keep24 bytes_of num_at be all_below
    all_found_lem glyph_with_text string_text standard_string standard_strings codes same_text_lem standard_names is_in those fds_of last_of last_from normal stripped zeros zeros_of trunc_of locals_words
    record_fine rows_fine_lem rows_of rows_from pruned renumbered renumbered_subrs renumbered_body each mapped stubbed stubbed_from lists given_in two_lengths_lem disagrees renumber_charstring renumber
    encode t2e.number_bytes t2e.integer_bytes t2e.fixed_bytes tok.tokens_of tok.tokens_from tok.token_at subset_bytes subset_by_name new_ids copied_bytes named_bytes names_of texts_of named_entries
    new_id place_in own_strings_lem has_text sid_of sid_in charset_bytes id_bytes op_bytes_lem operands_bytes entry_bytes entries_bytes offset_entry copied_entry private_entry entries.without
    int5_bytes number_bytes int_bytes index_bytes items_bytes head_bytes table_bytes ends size_for joined total
both_1 = simp (none-reached, none_below)

without_1 : has_way Renumbered (traced_cut small name (2 ∷ 3 ∷ []) 8192 0) ≡ false
unfolding
    traced_cut met_all record_of tens_bytes gathered placed unfold_glyph run_body walk step_at operator_at leave but target_of t2.number_at t2.rounded t2.keep24 bytes_of num_at be all_below
    all_found_lem glyph_with_text string_text standard_string standard_strings codes same_text_lem standard_names is_in those fds_of last_of last_from normal stripped zeros zeros_of trunc_of locals_words
    record_fine rows_fine_lem rows_of rows_from pruned renumbered renumbered_subrs renumbered_body each mapped stubbed stubbed_from lists given_in two_lengths_lem disagrees renumber_charstring renumber
    encode t2e.number_bytes t2e.integer_bytes t2e.fixed_bytes tok.tokens_of tok.tokens_from tok.token_at subset_bytes subset_by_name new_ids copied_bytes named_bytes names_of texts_of named_entries
    new_id place_in own_strings_lem has_text sid_of sid_in charset_bytes id_bytes op_bytes_lem operands_bytes entry_bytes entries_bytes offset_entry copied_entry private_entry entries.without
    int5_bytes number_bytes int_bytes index_bytes items_bytes head_bytes table_bytes ends size_for joined total
without_1 = simp (none-reached, none_below)

without_2 : has_way Renumbered (traced_cut small name (1 ∷ 3 ∷ []) 8192 0) ≡ false
unfolding
    traced_cut met_all record_of tens_bytes gathered placed unfold_glyph run_body walk step_at operator_at leave but target_of t2.number_at t2.rounded t2.keep24 bytes_of num_at be all_below
    all_found_lem glyph_with_text string_text standard_string standard_strings codes same_text_lem standard_names is_in those fds_of last_of last_from normal stripped zeros zeros_of trunc_of locals_words
    record_fine rows_fine_lem rows_of rows_from pruned renumbered renumbered_subrs renumbered_body each mapped stubbed stubbed_from lists given_in two_lengths_lem disagrees renumber_charstring renumber
    encode t2e.number_bytes t2e.integer_bytes t2e.fixed_bytes tok.tokens_of tok.tokens_from tok.token_at subset_bytes subset_by_name new_ids copied_bytes named_bytes names_of texts_of named_entries
    new_id place_in own_strings_lem has_text sid_of sid_in charset_bytes id_bytes op_bytes_lem operands_bytes entry_bytes entries_bytes offset_entry copied_entry private_entry entries.without
    int5_bytes number_bytes int_bytes index_bytes items_bytes head_bytes table_bytes ends size_for joined total
without_2 = simp (none-reached, none_below)

without_3 : has_way Renumbered (traced_cut small name (1 ∷ 2 ∷ []) 8192 0) ≡ false
unfolding
    traced_cut met_all record_of tens_bytes gathered placed unfold_glyph run_body walk step_at operator_at leave but target_of t2.number_at t2.rounded t2.keep24 bytes_of num_at be all_below
    all_found_lem glyph_with_text string_text standard_string standard_strings codes same_text_lem standard_names is_in those fds_of last_of last_from normal stripped zeros zeros_of trunc_of locals_words
    record_fine rows_fine_lem rows_of rows_from pruned renumbered renumbered_subrs renumbered_body each mapped stubbed stubbed_from lists given_in two_lengths_lem disagrees renumber_charstring renumber
    encode t2e.number_bytes t2e.integer_bytes t2e.fixed_bytes tok.tokens_of tok.tokens_from tok.token_at subset_bytes subset_by_name new_ids copied_bytes named_bytes names_of texts_of named_entries
    new_id place_in own_strings_lem has_text sid_of sid_in charset_bytes id_bytes op_bytes_lem operands_bytes entry_bytes entries_bytes offset_entry copied_entry private_entry entries.without
    int5_bytes number_bytes int_bytes index_bytes items_bytes head_bytes table_bytes ends size_for joined total
without_3 = simp (none-reached, none_below)

-- ---- one culprit

culprit : culprit_in small name (1 ∷ 2 ∷ []) 8192 0 ≡ Ok (Some 2)
unfolding those is_culprit is_in without
culprit = is_least small name (1 ∷ 2 ∷ []) 8192 0 way_1 ∙ rw (alone_1, way_0)

least : Least small name (1 ∷ 2 ∷ []) 8192 0 2
least = blocking_least small name (1 ∷ 2 ∷ []) 8192 0 2 culprit

-- ---- two: none

no_culprit : culprit_in small name (1 ∷ 2 ∷ 3 ∷ []) 8192 0 ≡ Ok None
unfolding those is_culprit is_in without
no_culprit = is_least small name (1 ∷ 2 ∷ 3 ∷ []) 8192 0 both_1 ∙ rw (without_1, without_2, without_3)

not_the_first : has_way Renumbered (traced_cut small name (1 ∷ 3 ∷ []) 8192 0) ≡ false
unfolding is_in without
not_the_first = blocking_none small name (1 ∷ 2 ∷ 3 ∷ []) 8192 0 both_1 no_culprit 2 (omega arith) refl

-- ---- another way: none

renumbered-none : culprit_in small name (1 ∷ []) 8192 0 ≡ Ok None
renumbered-none = let w = has-way Renumbered (traced_cut small name (1 ∷ []) 8192 0) way_0 in other_way small name (1 ∷ []) 8192 0 Renumbered w.0 w.1 refl

copied_none : culprit_in small name (1 ∷ 2 ∷ 4 ∷ []) 8192 0 ≡ Ok None
copied_none = let w = has-way Copied (traced_cut small name (1 ∷ 2 ∷ 4 ∷ []) 8192 0) way_2 in other_way small name (1 ∷ 2 ∷ 4 ∷ []) 8192 0 Copied w.0 w.1 refl
