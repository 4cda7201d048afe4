-- A name-keyed font cut (document 01, 'Layout' and 'Corners in write.rs'), byte for byte: its three glyphs under the name N, way 0. The
-- bytes expected are those of the Rust's subset. Of the font's two strings A is a standard one, id 34, and Qx names a glyph and is the
-- FullName. Of four local subroutines the second and the fourth are reached, by glyphs 1 and 2; the fourth calls the second.
use Rattle.std.specs.Prelude.{ℕ, ◌≡◌, refl, true, false, List, [], ◌∷◌, Ok}
use Rattle.std.proofs.Common.{ap, ◌∙◌, arith}
use Rattle.octets.specs.Octets.{be, num_at, bytes_of}
use Rattle.octets.specs.Lists.{all_below, joined}
use Rattle.type2_number.specs.Number as t2
use Rattle.type2_number.specs.Encoding as t2e
use Rattle.charstring.specs.Token as tok
use Rattle.charstring.specs.Encode.{encode}
use Rattle.index.specs.Index.{offsets, run_of, judged, data_at, table_at, index_at, pieces, items_of, told, read_index}
use Rattle.index.specs.Write.{total, size_for, ends, table_bytes, head_bytes, items_bytes, index_bytes}
use Rattle.decimal.specs.Decimal.{zeros_of, zeros, stripped, normal, whole}
use Rattle.decimal.specs.Number.{number_at, real_at}
use Rattle.decimal.specs.Values.{trunc_of}
use Rattle.decimal.specs.Written.{int5_bytes, number_bytes, int_bytes}
use Rattle.dict.specs.Dict.{token_at, operator_at, entry_from, entry_at, readings_from, readings_at, gathered, dict_of}
use Rattle.dict.specs.Op.{private, subrs}
use Rattle.dict.specs.Lookup.{last_from, last_of}
use Rattle.dict_write.specs.Written.{copied_entry, op_bytes_lem, operands_bytes, entry_bytes, entries_bytes, offset_entry, private_entry, without}
use Rattle.charset.specs.Listed.{list_of}
use Rattle.charset.specs.Charset.{ids_from, charset_at}
use Rattle.charset.specs.CharsetBytes.{id_bytes, charset_bytes}
use Rattle.strings.specs.Table.{standard_names}
use Rattle.strings.specs.Text.{codes, same_text_lem}
use Rattle.strings.specs.Strings.{string_text, standard_string, standard_strings, sid_in, sid_of}
use Rattle.find.specs.Find.{glyph_with_text}
use Rattle.unfold.specs.Unfold.{Row, local, entered}
use Rattle.record.specs.Record.{rows_from, rows_of, rows_fine_lem, record_fine, lists, given_in, disagrees, two_lengths_lem}
use Rattle.prune.specs.Renumber.{renumber, renumber_charstring}
use Rattle.opentype.specs.Opentype.{place_of}
use Rattle.cff.specs.Font.{standard, Program, charset, char_strings, read_table, read_font, set_at, fonts_at, font_at, name_parts, ids_at, private_at, private_data, locals_at, coding_at, encoding_got}
use Rattle.cff.specs.Find.{work_size, locals_words}
use Rattle.subset.specs.Kept.{is_in, those, fds_of}
use Rattle.bits.specs.Bits.{count_below}
use Rattle.subset.specs.Pruned.{Bodies, Pruned, reached, local_set, each, renumbered_body, renumbered_subrs, renumbered, pruned}
use Rattle.subset.specs.Texts.{has_text, own_strings_lem, place_in, new_id, named_entries, texts_of, names_of}
use Rattle.subset.specs.Codes.{none}
use Rattle.subset.specs.Subset.{named_bytes, copied_bytes, new_ids, subset_by_name, subset_bytes}
use Rattle.subset.specs.Cut.{Outcome, subset, all_found_lem, written, cut_read, cut_with, cut_of}
use Rattle.subset.specs.ReachedLaws.{numbers_below, lists-past, count_past}
use Rattle.subset.specs.declared.Way.TheVariants.{Renumbered}

-- the font's bytes
abbrev pub name_font : List ℕ
name_font =
    -- header
    0x01 ∷ 0x00 ∷ 0x04 ∷ 0x01
    -- names
    ∷ 0x00 ∷ 0x01 ∷ 0x01 ∷ 0x01 ∷ 0x02 ∷ 0x58
    -- top DICT: FullName, charset, CharStrings, Private
    ∷ 0x00 ∷ 0x01 ∷ 0x01 ∷ 0x01 ∷ 0x11 ∷ 0xf8 ∷ 0x1c ∷ 0x02 ∷ 0x1c ∷ 0x00 ∷ 0x2a ∷ 0x0f ∷ 0x1c ∷ 0x00 ∷ 0x2f ∷ 0x11 ∷ 0x8f ∷ 0x1c ∷ 0x00 ∷ 0x3d
    ∷ 0x12
    -- strings: A, Qx
    ∷ 0x00 ∷ 0x02 ∷ 0x01 ∷ 0x01 ∷ 0x02 ∷ 0x04 ∷ 0x41 ∷ 0x51 ∷ 0x78
    -- global subroutines: none
    ∷ 0x00 ∷ 0x00
    -- charset: string ids 0 391 392
    ∷ 0x00 ∷ 0x01 ∷ 0x87 ∷ 0x01 ∷ 0x88
    -- charstrings
    ∷ 0x00 ∷ 0x03 ∷ 0x01 ∷ 0x01 ∷ 0x02 ∷ 0x05 ∷ 0x08 ∷ 0x0e ∷ 0x21 ∷ 0x0a ∷ 0x0e ∷ 0x23 ∷ 0x0a ∷ 0x0e
    -- Private DICT and local subroutines
    ∷ 0x8d ∷ 0x14 ∷ 0x8f ∷ 0x13 ∷ 0x00 ∷ 0x04 ∷ 0x01 ∷ 0x01 ∷ 0x02 ∷ 0x05 ∷ 0x06 ∷ 0x09 ∷ 0x0b ∷ 0x8d ∷ 0x16 ∷ 0x0b ∷ 0x0b ∷ 0x21 ∷ 0x0a ∷ 0x0b ∷ []

-- what it holds
abbrev pub name_program : Program
name_program =
    record {
      top =
          (record { op = 2; operands = whole 392 ∷ [] })
          ∷ (record { op = charset; operands = whole 42 ∷ [] })
          ∷ (record { op = char_strings; operands = whole 47 ∷ [] })
          ∷ (record { op = private; operands = whole 4 ∷ whole 61 ∷ [] })
          ∷ [];
      strings = (0x41 ∷ []) ∷ (0x51 ∷ 0x78 ∷ []) ∷ [];
      globals = [];
      charstrings = (0x0e ∷ []) ∷ (0x21 ∷ 0x0a ∷ 0x0e ∷ []) ∷ (0x23 ∷ 0x0a ∷ 0x0e ∷ []) ∷ [];
      ids = 0 ∷ 391 ∷ 392 ∷ [];
      privates =
          (record {
            entries = (record { op = 20; operands = whole 2 ∷ [] }) ∷ (record { op = subrs; operands = whole 4 ∷ [] }) ∷ [];
            locals = (0x0b ∷ []) ∷ (0x8d ∷ 0x16 ∷ 0x0b ∷ []) ∷ (0x0b ∷ []) ∷ (0x21 ∷ 0x0a ∷ 0x0b ∷ []) ∷ [];
          })
          ∷ [];
      fds = 0 ∷ 0 ∷ 0 ∷ [];
      dicts = [];
      coding = standard;
    }

-- and that reading gives it
pub reads : read_font name_font ≡ Ok name_program
unfolding
    read_font read_table place_of set_at fonts_at font_at name_parts ids_at private_at private_data locals_at coding_at encoding_got read_index told items_of pieces index_at table_at data_at judged run_of offsets
    num_at be dict_of gathered readings_at readings_from entry_at entry_from token_at operator_at number_at real_at normal stripped zeros zeros_of trunc_of last_of last_from
    list_of ids_from charset_at
reads = refl

-- the record, as the Rust's trace gives it
abbrev pub reach : List ℕ
reach =
    0x00 ∷ 0x00 ∷ 0x00 ∷ 0x01 ∷ 0x00 ∷ 0x00 ∷ 0x00 ∷ 0x00 ∷ 0x00 ∷ 0x00
    ∷ 0x00 ∷ 0x00 ∷ 0x00 ∷ 0x03 ∷ 0x00 ∷ 0x00 ∷ 0x00 ∷ 0x00 ∷ 0x00 ∷ 0x00 ∷ []

-- its rows
abbrev reach_rows : List Row
reach_rows = entered (local 0 1) ∷ entered (local 0 3) ∷ []

reach-rows : rows_of reach ≡ reach_rows
unfolding rows_of rows_from num_at be
reach-rows = refl

-- it has the right form
fine_reach : record_fine false reach 1 ≡ true
unfolding record_fine rows_fine_lem rows_of rows_from num_at be
fine_reach = refl

-- ---- the bodies: the second subroutine is the first, the fourth the second

-- numbers below 4 alone are listed, of them 1 and 3; no global
few-reached : reached (local_set reach_rows 0) ≡ count_below (local_set reach_rows 0) 4
unfolding numbers_below
few-reached = count_past (local_set reach_rows 0) 4 65536 (λ k h. lists-past 4 reach_rows (entered (local 0 k)) refl h) (omega arith)

below-four : count_below (local_set reach_rows 0) 4 ≡ 2
unfolding count_below lists
below-four = refl

below-three : count_below (local_set reach_rows 0) 3 ≡ 1
unfolding count_below lists
below-three = refl

below_one : count_below (local_set reach_rows 0) 1 ≡ 0
unfolding count_below lists
below_one = refl

no_globals : count_below (λ k. false) 65536 ≡ 0
unfolding count_below
no_globals = count_past (λ k. false) 0 65536 (λ k h. refl) (omega arith)

below_none : count_below (λ k. false) 0 ≡ 0
unfolding count_below
below_none = refl

-- what becomes of the bodies
abbrev renumbered_bodies : Bodies
renumbered_bodies =
    record {
      globals = [];
      locals = ((0x8d ∷ 0x16 ∷ 0x0b ∷ []) ∷ (0x20 ∷ 0x0a ∷ 0x0b ∷ []) ∷ []) ∷ [];
      charstrings = (0x0e ∷ []) ∷ (0x20 ∷ 0x0a ∷ 0x0e ∷ []) ∷ (0x21 ∷ 0x0a ∷ 0x0e ∷ []) ∷ [];
    }

-- way 0
bodies-renumbered : pruned name_program reach_rows (0 ∷ []) (0 ∷ 1 ∷ 2 ∷ []) 1 ≡ record { way = Renumbered; bodies = renumbered_bodies }
unfolding
    pruned renumbered renumbered_subrs renumbered_body each those lists given_in two_lengths_lem disagrees renumber_charstring renumber encode t2.number_at t2.keep24
    t2.rounded t2e.number_bytes t2e.integer_bytes t2e.fixed_bytes tok.tokens_of tok.tokens_from tok.token_at bytes_of num_at be
bodies-renumbered = simp (few-reached, below-four, below-three, below_one, no_globals, below_none)

-- ---- the whole

-- the call, with a record and a flag
abbrev pub cut : List ℕ → ℕ → Outcome
cut rec flag = cut_of false false name_font (0x4e ∷ []) (1 ∷ 2 ∷ []) rec flag 8192 32768

-- what is written of bodies
abbrev written_of : Pruned → Outcome
written_of q = written name_program none (0x4e ∷ []) (0 ∷ 1 ∷ 2 ∷ []) (0 ∷ 1 ∷ 2 ∷ []) 32768 q

-- a call whose record and flag are of the right form is not refused before it is written
cut-written : (rec : List ℕ) (flag : ℕ) → record_fine false rec flag ≡ true
    → cut rec flag ≡ written_of (pruned name_program (rows_of rec) (0 ∷ []) (0 ∷ 1 ∷ 2 ∷ []) flag)
unfolding
    cut_with all_below all_found_lem glyph_with_text string_text standard_string standard_strings codes same_text_lem standard_names is_in those fds_of last_of last_from trunc_of locals_words
    normal stripped zeros zeros_of
cut-written rec flag fine = ap (λ g. cut_read work_size false false g (0x4e ∷ []) (1 ∷ 2 ∷ []) rec flag 8192 32768) reads ∙ rw fine

-- the subset
abbrev pub renumbered_bytes : List ℕ
renumbered_bytes =
    -- header
    0x01 ∷ 0x00 ∷ 0x04 ∷ 0x01
    -- names
    ∷ 0x00 ∷ 0x01 ∷ 0x01 ∷ 0x01 ∷ 0x02 ∷ 0x4e
    -- top DICT: FullName, charset, CharStrings, Private
    ∷ 0x00 ∷ 0x01 ∷ 0x01 ∷ 0x01 ∷ 0x1b ∷ 0xf8 ∷ 0x1b ∷ 0x02 ∷ 0x1d ∷ 0x00 ∷ 0x00 ∷ 0x00 ∷ 0x32 ∷ 0x0f ∷ 0x1d ∷ 0x00 ∷ 0x00 ∷ 0x00 ∷ 0x37 ∷ 0x11
    ∷ 0x1d ∷ 0x00 ∷ 0x00 ∷ 0x00 ∷ 0x08 ∷ 0x1d ∷ 0x00 ∷ 0x00 ∷ 0x00 ∷ 0x45 ∷ 0x12
    -- strings: Qx
    ∷ 0x00 ∷ 0x01 ∷ 0x01 ∷ 0x01 ∷ 0x03 ∷ 0x51 ∷ 0x78
    -- global subroutines: none
    ∷ 0x00 ∷ 0x00
    -- charset: string ids 0 34 391
    ∷ 0x00 ∷ 0x00 ∷ 0x22 ∷ 0x01 ∷ 0x87
    -- charstrings
    ∷ 0x00 ∷ 0x03 ∷ 0x01 ∷ 0x01 ∷ 0x02 ∷ 0x05 ∷ 0x08 ∷ 0x0e ∷ 0x20 ∷ 0x0a ∷ 0x0e ∷ 0x21 ∷ 0x0a ∷ 0x0e
    -- Private DICT and local subroutines
    ∷ 0x8d ∷ 0x14 ∷ 0x1d ∷ 0x00 ∷ 0x00 ∷ 0x00 ∷ 0x08 ∷ 0x13 ∷ 0x00 ∷ 0x02 ∷ 0x01 ∷ 0x01 ∷ 0x04 ∷ 0x07 ∷ 0x8d ∷ 0x16 ∷ 0x0b ∷ 0x20 ∷ 0x0a ∷ 0x0b ∷ []

-- what is written of the renumbered bodies
written-renumbered : written_of (record { way = Renumbered; bodies = renumbered_bodies }) ≡ subset Renumbered renumbered_bytes
unfolding
    subset_bytes subset_by_name new_ids copied_bytes named_bytes names_of texts_of named_entries new_id place_in own_strings_lem has_text string_text standard_string standard_strings sid_of
    sid_in codes same_text_lem standard_names charset_bytes id_bytes op_bytes_lem operands_bytes entry_bytes entries_bytes offset_entry copied_entry private_entry without last_of last_from trunc_of normal
    stripped zeros zeros_of int5_bytes number_bytes int_bytes index_bytes items_bytes head_bytes table_bytes ends size_for joined total bytes_of num_at be
written-renumbered = refl

-- the whole call
pub renumbers : cut reach 1 ≡ subset Renumbered renumbered_bytes
renumbers =
    cut-written reach 1 fine_reach ∙ ap (λ rs. written_of (pruned name_program rs (0 ∷ []) (0 ∷ 1 ∷ 2 ∷ []) 1)) reach-rows ∙ ap (λ q. written_of q) bodies-renumbered
    ∙ written-renumbered
