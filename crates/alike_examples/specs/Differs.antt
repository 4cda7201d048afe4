-- The bodies that the record lists are asked: fonts that differ in a byte of one, 0x8d and 0x8e, have other subsets, computed. So the moved font, whose reply is
-- the first one's, has not the second one's, whatever stands in its other bodies.
use Rattle.std.specs.Prelude.{ℕ, ◌≡◌, refl, true, false, List, [], ◌∷◌, get_or, Result}
use Rattle.std.proofs.Common.{sym, ap, ◌∙◌, arith}
use Rattle.octets.specs.Octets.{be, num_at, bytes_of}
use Rattle.octets.specs.Lists.{all_below, joined}
use Rattle.type2_number.specs.Number as t2
use Rattle.type2_number.specs.Encoding as t2e
use Rattle.charstring.specs.Token as tok
use Rattle.charstring.specs.Encode.{encode}
use Rattle.index.specs.Write.{total, size_for, ends, table_bytes, head_bytes, items_bytes, index_bytes}
use Rattle.decimal.specs.Decimal.{zeros_of, zeros, stripped, normal}
use Rattle.decimal.specs.Values.{trunc_of}
use Rattle.decimal.specs.Written.{int5_bytes, number_bytes, int_bytes}
use Rattle.dict.specs.Lookup.{last_from, last_of}
use Rattle.dict_write.specs.Written.{copied_entry, op_bytes_lem, operands_bytes, entry_bytes, entries_bytes, offset_entry, private_entry, without}
use Rattle.charset.specs.CharsetBytes.{id_bytes, charset_bytes}
use Rattle.strings.specs.Table.{standard_names}
use Rattle.strings.specs.Text.{codes, same_text_lem}
use Rattle.strings.specs.Strings.{string_text, standard_string, standard_strings, sid_in, sid_of}
use Rattle.find.specs.Find.{glyph_with_text}
use Rattle.unfold.specs.Unfold.{Row, local, global, entered}
use Rattle.record.specs.Record.{rows_from, rows_of, rows_fine_lem, record_fine, lists, given_in, disagrees, two_lengths_lem}
use Rattle.prune.specs.Renumber.{renumber, renumber_charstring}
use Rattle.cff.specs.Font.{Program}
use Rattle.cff.specs.Find.{work_size, locals_words}
use Rattle.bits.specs.Bits.{count_below}
use Rattle.subset.specs.Kept.{is_in, those, fds_of}
use Rattle.subset.specs.Pruned.{Pruned, reached, local_set, global_set, each, renumbered_body, renumbered_subrs, renumbered, pruned}
use Rattle.subset.specs.Texts.{has_text, own_strings_lem, place_in, new_id, named_entries, texts_of, names_of}
use Rattle.subset.specs.Codes.{none}
use Rattle.subset.specs.Subset.{named_bytes, copied_bytes, new_ids, subset_by_name, subset_bytes}
use Rattle.subset.specs.Cut.{Outcome, refused, subset, all_found_lem, written, cut_read, cut_with}
use Rattle.subset.specs.ReachedLaws.{numbers_below, lists-past, count_past}
use Rattle.alike_examples.specs.Fonts.{bare, bare_program, bare-reads, moved, reach, keep, cut}
use Rattle.alike_examples.specs.Same.{same_reply}
use Rattle.refusal.specs.declared.Refusal.{Refusal}
use Rattle.subset.specs.declared.Way.TheVariants.{Renumbered}

-- ---- the record

abbrev rows : List Row
rows = entered (local 0 1) ∷ entered (global 1) ∷ []

reach-rows : rows_of reach ≡ rows
unfolding rows_of rows_from num_at be
reach-rows = refl

fine_reach : record_fine false reach 1 ≡ true
unfolding record_fine rows_fine_lem rows_of rows_from num_at be
fine_reach = refl

-- numbers below 2 alone are listed, of them 1
few-locals : reached (local_set rows 0) ≡ count_below (local_set rows 0) 2
unfolding numbers_below
few-locals = count_past (local_set rows 0) 2 65536 (λ k h. lists-past 2 rows (entered (local 0 k)) refl h) (omega arith)

few-globals : reached (global_set rows) ≡ count_below (global_set rows) 2
unfolding numbers_below
few-globals = count_past (global_set rows) 2 65536 (λ k h. lists-past 2 rows (entered (global k)) refl h) (omega arith)

locals-two : count_below (local_set rows 0) 2 ≡ 1
unfolding count_below lists
locals-two = refl

locals-one : count_below (local_set rows 0) 1 ≡ 0
unfolding count_below lists
locals-one = refl

globals-two : count_below (global_set rows) 2 ≡ 1
unfolding count_below lists
globals-two = refl

globals-one : count_below (global_set rows) 1 ≡ 0
unfolding count_below lists
globals-one = refl

-- ---- the bodies, renumbered: way 0

abbrev bodies : ℕ → Pruned
bodies x =
    record {
      way = Renumbered;
      bodies =
          record {
            globals = (0x8d ∷ 0x16 ∷ 0x0b ∷ []) ∷ [];
            locals = ((x ∷ 0x16 ∷ 0x0b ∷ []) ∷ []) ∷ [];
            charstrings = (0x0e ∷ []) ∷ (0x20 ∷ 0x0a ∷ 0x20 ∷ 0x1d ∷ 0x0e ∷ []) ∷ [];
          };
    }

abbrev pruned_of : ℕ → List Row → Pruned
pruned_of x rs = pruned (bare_program x) rs (0 ∷ []) (0 ∷ 1 ∷ []) 1

bodies_8d : pruned_of 0x8d rows ≡ bodies 0x8d
unfolding
    pruned renumbered renumbered_subrs renumbered_body each those lists given_in two_lengths_lem disagrees renumber_charstring renumber encode t2.number_at t2.keep24
    t2.rounded t2e.number_bytes t2e.integer_bytes t2e.fixed_bytes tok.tokens_of tok.tokens_from tok.token_at bytes_of num_at be
bodies_8d = simp (few-locals, few-globals, locals-two, locals-one, globals-two, globals-one)

bodies_8e : pruned_of 0x8e rows ≡ bodies 0x8e
unfolding
    pruned renumbered renumbered_subrs renumbered_body each those lists given_in two_lengths_lem disagrees renumber_charstring renumber encode t2.number_at t2.keep24
    t2.rounded t2e.number_bytes t2e.integer_bytes t2e.fixed_bytes tok.tokens_of tok.tokens_from tok.token_at bytes_of num_at be
bodies_8e = simp (few-locals, few-globals, locals-two, locals-one, globals-two, globals-one)

-- ---- the whole

abbrev written_of : ℕ → Pruned → Outcome
written_of x q = written (bare_program x) none (0x4e ∷ []) (0 ∷ 1 ∷ []) (0 ∷ 1 ∷ []) 32768 q

-- the call is not refused before it is written
cut-written : (x : ℕ) → cut (bare x) reach 1 ≡ written_of x (pruned_of x (rows_of reach))
unfolding
    cut_with all_below all_found_lem glyph_with_text string_text standard_string standard_strings codes same_text_lem standard_names is_in those fds_of last_of last_from trunc_of locals_words
    normal stripped zeros zeros_of
cut-written x = ap (λ (g : Result Program Refusal). cut_read work_size false false g (0x4e ∷ []) keep reach 1 8192 32768) (bare-reads x) ∙ rw fine_reach

-- the subset
abbrev pub bytes_for : ℕ → List ℕ
bytes_for x =
    -- header
    0x01 ∷ 0x00 ∷ 0x04 ∷ 0x01
    -- names
    ∷ 0x00 ∷ 0x01 ∷ 0x01 ∷ 0x01 ∷ 0x02 ∷ 0x4e
    -- top DICT: FullName, charset, CharStrings, Private
    ∷ 0x00 ∷ 0x01 ∷ 0x01 ∷ 0x01 ∷ 0x1b ∷ 0xf8 ∷ 0x1b ∷ 0x02 ∷ 0x1d ∷ 0x00 ∷ 0x00 ∷ 0x00 ∷ 0x38 ∷ 0x0f ∷ 0x1d ∷ 0x00 ∷ 0x00 ∷ 0x00 ∷ 0x3b ∷ 0x11 ∷ 0x1d ∷ 0x00 ∷ 0x00 ∷ 0x00 ∷ 0x08 ∷ 0x1d ∷ 0x00 ∷ 0x00 ∷ 0x00 ∷ 0x47 ∷ 0x12
    -- strings: Qx
    ∷ 0x00 ∷ 0x01 ∷ 0x01 ∷ 0x01 ∷ 0x03 ∷ 0x51 ∷ 0x78
    -- global subroutines
    ∷ 0x00 ∷ 0x01 ∷ 0x01 ∷ 0x01 ∷ 0x04 ∷ 0x8d ∷ 0x16 ∷ 0x0b
    -- charset: string ids 0 34
    ∷ 0x00 ∷ 0x00 ∷ 0x22
    -- charstrings
    ∷ 0x00 ∷ 0x02 ∷ 0x01 ∷ 0x01 ∷ 0x02 ∷ 0x07 ∷ 0x0e ∷ 0x20 ∷ 0x0a ∷ 0x20 ∷ 0x1d ∷ 0x0e
    -- Private DICT and local subroutines
    ∷ 0x8d ∷ 0x14 ∷ 0x1d ∷ 0x00 ∷ 0x00 ∷ 0x00 ∷ 0x08 ∷ 0x13 ∷ 0x00 ∷ 0x01 ∷ 0x01 ∷ 0x01 ∷ 0x04 ∷ x ∷ 0x16 ∷ 0x0b ∷ []

written-bytes : (x : ℕ) → written_of x (bodies x) ≡ subset Renumbered (bytes_for x)
unfolding
    subset_bytes subset_by_name new_ids copied_bytes named_bytes names_of texts_of named_entries new_id place_in own_strings_lem has_text string_text standard_string standard_strings sid_of
    sid_in codes same_text_lem standard_names charset_bytes id_bytes op_bytes_lem operands_bytes entry_bytes entries_bytes offset_entry copied_entry private_entry without last_of last_from trunc_of normal
    stripped zeros zeros_of int5_bytes number_bytes int_bytes index_bytes items_bytes head_bytes table_bytes ends size_for joined total bytes_of num_at be
written-bytes x = refl

replies : (x : ℕ) → pruned_of x rows ≡ bodies x → cut (bare x) reach 1 ≡ subset Renumbered (bytes_for x)
replies x e = cut-written x ∙ ap (λ (rs : List Row). written_of x (pruned_of x rs)) reach-rows ∙ ap (written_of x) e ∙ written-bytes x

-- the two replies
pub reply_8d : cut (bare 0x8d) reach 1 ≡ subset Renumbered (bytes_for 0x8d)
reply_8d = replies 0x8d bodies_8d

pub reply_8e : cut (bare 0x8e) reach 1 ≡ subset Renumbered (bytes_for 0x8e)
reply_8e = replies 0x8e bodies_8e

-- they differ in a byte of the local subroutine
abbrev byte_of : Outcome → ℕ
byte_of (refused n) = 0
byte_of (subset way bs) = get_or bs 84 0

pub listed-differs : cut (bare 0x8d) reach 1 ≡ cut (bare 0x8e) reach 1 → ⊥
listed-differs e = let z : ◌≡◌ {A = ℕ} 0x8d 0x8e = ap byte_of (sym reply_8d ∙ (e ∙ reply_8e)) in omega arith

-- by the theorem: the reply for the moved font, none of which was computed
pub moved_reply : (u : ℕ) → cut (moved u) reach 1 ≡ subset Renumbered (bytes_for 0x8d)
moved_reply u = sym (same_reply u) ∙ reply_8d
