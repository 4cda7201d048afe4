-- The codes of a subset (document 02, Wish 4), each a whole call on a font of three glyphs that keeps glyph 1, and what the theorem then says of the
-- subset's codes: of a font with its own encoding, one with the Expert Encoding and one with the standard one.
use Rattle.std.specs.Prelude.{ℕ, ◌≡◌, refl, true, false, List, [], ◌∷◌, Result, Ok}
use Rattle.std.proofs.Common.{ap, ◌∙◌, subst, arith}
use Rattle.octets.specs.Octets.{be, num_at, bytes_of}
use Rattle.octets.specs.Lists.{all_below, joined}
use Rattle.type2_number.specs.Number as t2
use Rattle.type2_number.specs.Encoding as t2e
use Rattle.charstring.specs.Token as tok
use Rattle.charstring.specs.Encode.{encode}
use Rattle.index.specs.Index.{offsets, run_of, judged, data_at, table_at, index_at, pieces, items_of, told, read_index}
use Rattle.index.specs.Write.{total, size_for, ends, table_bytes, head_bytes, items_bytes, index_bytes}
use Rattle.decimal.specs.Decimal.{zeros_of, zeros, stripped, normal, whole}
use Rattle.decimal.specs.Number as dec
use Rattle.decimal.specs.Values.{trunc_of}
use Rattle.decimal.specs.Written as decw
use Rattle.dict.specs.Dict as dict
use Rattle.dict.specs.Lookup.{last_from, last_of, cid_keyed}
use Rattle.dict_write.specs.Written.{copied_entry, op_bytes_lem, entries_bytes, offset_entry, private_entry, without}
use Rattle.charset.specs.Listed.{list_of}
use Rattle.charset.specs.Charset.{ids_from, charset_at}
use Rattle.charset.specs.CharsetBytes.{id_bytes, charset_bytes}
use Rattle.charset.specs.Encoding.{encoding_at}
use Rattle.charset.specs.Codes.{by_number, by_string, codes_from, range_from, ranges_from, supplied_from, namings_by, namings_at}
use Rattle.charset.specs.Predefined.{standard_encoding, expert_encoding}
use Rattle.strings.specs.Table.{standard_names}
use Rattle.strings.specs.Text.{codes, same_text_lem}
use Rattle.strings.specs.Strings.{string_text, standard_string, standard_strings, sid_in, sid_of}
use Rattle.find.specs.Find.{glyph_with_text}
use Rattle.prune.specs.Renumber.{renumber, renumber_charstring}
use Rattle.record.specs.Record.{rows_from, rows_of, rows_fine_lem, record_fine, lists, given_in, disagrees, two_lengths_lem}
use Rattle.opentype.specs.Opentype.{place_of}
use Rattle.cff.specs.Font as font
use Rattle.cff.specs.Find.{work_size}
use Rattle.cff.specs.Font.{Program}
use Rattle.cff.specs.Find as cfffind
use Rattle.subset.specs.Kept.{is_in, those, kept_of, fds_of}
use Rattle.bits.specs.Bits.{count_below}
use Rattle.subset.specs.Pruned.{each, renumbered_body, renumbered_subrs, renumbered, pruned}
use Rattle.subset.specs.Texts.{has_text, own_strings_lem, place_in, new_id, named_entries, texts_of, names_of}
use Rattle.subset.specs.Codes.{last_named, glyph_of, pairs_from, coded_by_lem, pair_bytes, nothing, named, meant, kept_meant}
use Rattle.subset.specs.Subset.{named_bytes, copied_bytes, new_ids, subset_by_name, subset_bytes}
use Rattle.subset.specs.Cut.{refused, subset, all_found_lem, cut_read, cut_with, cut_of}
use Rattle.faithful.specs.Codes.{KeepsCodes}
use Rattle.faithful.proofs.Theorem.{codes-back}
use Rattle.faithful.proofs.Examples.{octets_of, none_octets}
use Rattle.refusal.specs.declared.Refusal.{Refusal}
use Rattle.refusal.specs.declared.Refusal.TheVariants.{Unsupported}
use Rattle.subset.specs.declared.Way.TheVariants.{Renumbered}

-- ---- its own encoding: code 65 names A; 66 Qx, and then A by a supplement, whose string id 34 is the standard one; 67 Qx, which is not kept

abbrev pub custom_font : List ℕ
custom_font =
    -- header
    0x01 ∷ 0x00 ∷ 0x04 ∷ 0x01
    -- names
    ∷ 0x00 ∷ 0x01 ∷ 0x01 ∷ 0x01 ∷ 0x02 ∷ 0x58
    -- top DICT: charset, Encoding, CharStrings
    ∷ 0x00 ∷ 0x01 ∷ 0x01 ∷ 0x01 ∷ 0x07 ∷ 0xab ∷ 0x0f ∷ 0xb0 ∷ 0x10 ∷ 0xbb ∷ 0x11
    -- strings: A, Qx
    ∷ 0x00 ∷ 0x02 ∷ 0x01 ∷ 0x01 ∷ 0x02 ∷ 0x04 ∷ 0x41 ∷ 0x51 ∷ 0x78
    -- global subroutines: none
    ∷ 0x00 ∷ 0x00
    -- charset: string ids 0 391 392
    ∷ 0x00 ∷ 0x01 ∷ 0x87 ∷ 0x01 ∷ 0x88
    -- encoding: codes 65 and 66 from one range, then supplements of 66 and 67
    ∷ 0x81 ∷ 0x01 ∷ 0x41 ∷ 0x01 ∷ 0x02 ∷ 0x42 ∷ 0x00 ∷ 0x22 ∷ 0x43 ∷ 0x01 ∷ 0x88
    -- charstrings
    ∷ 0x00 ∷ 0x03 ∷ 0x01 ∷ 0x01 ∷ 0x02 ∷ 0x03 ∷ 0x04 ∷ 0x0e ∷ 0x0e ∷ 0x0e ∷ []

-- what it holds
abbrev pub custom_program : Program
custom_program =
    record {
      top =
          (record { op = font.charset; operands = whole 32 ∷ [] })
          ∷ (record { op = font.encoding; operands = whole 37 ∷ [] })
          ∷ (record { op = font.char_strings; operands = whole 48 ∷ [] })
          ∷ [];
      strings = (0x41 ∷ []) ∷ (0x51 ∷ 0x78 ∷ []) ∷ [];
      globals = [];
      charstrings = (0x0e ∷ []) ∷ (0x0e ∷ []) ∷ (0x0e ∷ []) ∷ [];
      ids = 0 ∷ 391 ∷ 392 ∷ [];
      privates = font.empty_private ∷ [];
      fds = 0 ∷ 0 ∷ 0 ∷ [];
      dicts = [];
      coding = font.custom (by_number 65 1 ∷ by_number 66 2 ∷ by_string 66 34 ∷ by_string 67 392 ∷ []);
    }

pub custom_reads : font.read_font custom_font ≡ Ok custom_program
unfolding
    font.read_font font.read_table place_of font.set_at font.fonts_at font.font_at font.name_parts font.private_at font.ids_at font.coding_at font.encoding_got read_index told items_of pieces index_at table_at
    data_at judged run_of offsets num_at be dec.number_at dec.real_at dict.dict_of dict.gathered dict.readings_at dict.readings_from dict.entry_at dict.entry_from dict.operator_at
    dict.token_at normal stripped zeros zeros_of trunc_of last_of last_from list_of ids_from charset_at namings_at namings_by codes_from ranges_from range_from supplied_from encoding_at
custom_reads = refl

-- its subset of the glyphs 0 and 1
abbrev pub custom_subset : List ℕ
custom_subset =
    -- header
    0x01 ∷ 0x00 ∷ 0x04 ∷ 0x01
    -- names
    ∷ 0x00 ∷ 0x01 ∷ 0x01 ∷ 0x01 ∷ 0x02 ∷ 0x4e
    -- top DICT: charset, Encoding, CharStrings, Private
    ∷ 0x00 ∷ 0x01 ∷ 0x01 ∷ 0x01 ∷ 0x1e ∷ 0x1d ∷ 0x00 ∷ 0x00 ∷ 0x00 ∷ 0x30 ∷ 0x0f ∷ 0x1d ∷ 0x00 ∷ 0x00 ∷ 0x00 ∷ 0x33 ∷ 0x10 ∷ 0x1d ∷ 0x00 ∷ 0x00
    ∷ 0x00 ∷ 0x3c ∷ 0x11 ∷ 0x1d ∷ 0x00 ∷ 0x00 ∷ 0x00 ∷ 0x00 ∷ 0x1d ∷ 0x00 ∷ 0x00 ∷ 0x00 ∷ 0x44 ∷ 0x12
    -- strings, global subroutines: none
    ∷ 0x00 ∷ 0x00 ∷ 0x00 ∷ 0x00
    -- charset
    ∷ 0x00 ∷ 0x00 ∷ 0x22
    -- encoding
    ∷ 0x80 ∷ 0x00 ∷ 0x02 ∷ 0x41 ∷ 0x00 ∷ 0x22 ∷ 0x42 ∷ 0x00 ∷ 0x22
    -- charstrings
    ∷ 0x00 ∷ 0x02 ∷ 0x01 ∷ 0x01 ∷ 0x02 ∷ 0x03 ∷ 0x0e ∷ 0x0e ∷ []

custom_written : cut_read work_size false true (Ok custom_program) (0x4e ∷ []) (1 ∷ []) [] 1 8192 32768 ≡ subset Renumbered custom_subset
unfolding
    all_below all_found_lem subset_bytes subset_by_name new_ids named_bytes copied_bytes names_of texts_of named_entries new_id place_in own_strings_lem has_text pruned renumbered renumbered_subrs
    renumbered_body each count_below those is_in fds_of record_fine rows_fine_lem rows_of rows_from lists given_in two_lengths_lem disagrees renumber_charstring renumber glyph_with_text
    string_text standard_string standard_strings sid_of sid_in codes same_text_lem standard_names charset_bytes id_bytes op_bytes_lem entries_bytes offset_entry copied_entry private_entry
    without last_of last_from trunc_of normal stripped zeros zeros_of index_bytes items_bytes head_bytes table_bytes ends size_for joined total encode bytes_of num_at be t2.keep24 t2.rounded
    t2.number_at t2e.number_bytes t2e.integer_bytes t2e.fixed_bytes tok.tokens_of tok.tokens_from tok.token_at decw.int5_bytes cfffind.locals_words coded_by_lem pairs_from last_named pair_bytes
custom_written = refl

pub custom_cut : cut_of false true custom_font (0x4e ∷ []) (1 ∷ []) [] 1 8192 32768 ≡ subset Renumbered custom_subset
unfolding cut_with
custom_cut = ap (λ (g : Result Program Refusal). cut_read work_size false true g (0x4e ∷ []) (1 ∷ []) [] 1 8192 32768) custom_reads ∙ custom_written

-- the codes in the font, where their glyphs are kept
custom_65 : kept_meant custom_program (kept_of 3 (1 ∷ [])) (glyph_of custom_program custom_program.coding 65) ≡ named (0x41 ∷ [])
unfolding glyph_of glyph_with_text string_text standard_string standard_strings standard_names same_text_lem codes those is_in last_named
custom_65 = refl

custom_66 : kept_meant custom_program (kept_of 3 (1 ∷ [])) (glyph_of custom_program custom_program.coding 66) ≡ named (0x41 ∷ [])
unfolding glyph_of glyph_with_text string_text standard_string standard_strings standard_names same_text_lem codes those is_in last_named
custom_66 = refl

custom_67 : kept_meant custom_program (kept_of 3 (1 ∷ [])) (glyph_of custom_program custom_program.coding 67) ≡ nothing
unfolding glyph_of glyph_with_text string_text standard_string standard_strings standard_names same_text_lem codes those is_in last_named
custom_67 = refl

-- and so in the subset
custom_octets : all_below 256 custom_font ≡ true
unfolding all_below
custom_octets = refl

custom_keyed : cid_keyed custom_program.top ≡ false
unfolding last_of last_from
custom_keyed = refl

custom_codes : (q : Program) × (font.read_font custom_subset ≡ Ok q)
    × (meant q (glyph_of q q.coding 65) ≡ named (0x41 ∷ []))
    × (meant q (glyph_of q q.coding 66) ≡ named (0x41 ∷ []))
    × (meant q (glyph_of q q.coding 67) ≡ nothing)
custom_codes =
    let keeps : KeepsCodes true custom_font (1 ∷ []) (subset Renumbered custom_subset)
    = subst (KeepsCodes true custom_font (1 ∷ [])) custom_cut
    (codes-back work_size false true custom_font (0x4e ∷ []) (1 ∷ []) [] 1 8192 32768 (octets_of custom_font custom_octets) none_octets) in
    let k = keeps refl custom_program custom_reads custom_keyed in
    (k.0, k.1, k.2.codes 65 (omega arith) ∙ custom_65, k.2.codes 66 (omega arith) ∙ custom_66, k.2.codes 67 (omega arith) ∙ custom_67)

-- ---- the Expert Encoding: code 32 is space, 44 comma, which is not kept, and (0).notdef

abbrev expert_font : List ℕ
expert_font =
    -- header
    0x01 ∷ 0x00 ∷ 0x04 ∷ 0x01
    -- names
    ∷ 0x00 ∷ 0x01 ∷ 0x01 ∷ 0x01 ∷ 0x02 ∷ 0x58
    -- top DICT: charset, Encoding, CharStrings
    ∷ 0x00 ∷ 0x01 ∷ 0x01 ∷ 0x01 ∷ 0x07 ∷ 0xa4 ∷ 0x0f ∷ 0x8c ∷ 0x10 ∷ 0xa9 ∷ 0x11
    -- strings, global subroutines: none
    ∷ 0x00 ∷ 0x00 ∷ 0x00 ∷ 0x00
    -- charset: string ids 0 1 13
    ∷ 0x00 ∷ 0x00 ∷ 0x01 ∷ 0x00 ∷ 0x0d
    -- charstrings
    ∷ 0x00 ∷ 0x03 ∷ 0x01 ∷ 0x01 ∷ 0x02 ∷ 0x03 ∷ 0x04 ∷ 0x0e ∷ 0x0e ∷ 0x0e ∷ []

-- what it holds
abbrev expert_program : Program
expert_program =
    record {
      top =
          (record { op = font.charset; operands = whole 25 ∷ [] })
          ∷ (record { op = font.encoding; operands = whole 1 ∷ [] })
          ∷ (record { op = font.char_strings; operands = whole 30 ∷ [] })
          ∷ [];
      strings = [];
      globals = [];
      charstrings = (0x0e ∷ []) ∷ (0x0e ∷ []) ∷ (0x0e ∷ []) ∷ [];
      ids = 0 ∷ 1 ∷ 13 ∷ [];
      privates = font.empty_private ∷ [];
      fds = 0 ∷ 0 ∷ 0 ∷ [];
      dicts = [];
      coding = font.expert;
    }

expert_reads : font.read_font expert_font ≡ Ok expert_program
unfolding
    font.read_font font.read_table place_of font.set_at font.fonts_at font.font_at font.name_parts font.private_at font.ids_at font.coding_at font.encoding_got read_index told items_of pieces index_at table_at
    data_at judged run_of offsets num_at be dec.number_at dec.real_at dict.dict_of dict.gathered dict.readings_at dict.readings_from dict.entry_at dict.entry_from dict.operator_at
    dict.token_at normal stripped zeros zeros_of trunc_of last_of last_from list_of ids_from charset_at
expert_reads = refl

-- its subset of the glyphs 0 and 1
abbrev expert_subset : List ℕ
expert_subset =
    -- header
    0x01 ∷ 0x00 ∷ 0x04 ∷ 0x01
    -- names
    ∷ 0x00 ∷ 0x01 ∷ 0x01 ∷ 0x01 ∷ 0x02 ∷ 0x4e
    -- top DICT: charset, Encoding, CharStrings, Private
    ∷ 0x00 ∷ 0x01 ∷ 0x01 ∷ 0x01 ∷ 0x1e ∷ 0x1d ∷ 0x00 ∷ 0x00 ∷ 0x00 ∷ 0x30 ∷ 0x0f ∷ 0x1d ∷ 0x00 ∷ 0x00 ∷ 0x00 ∷ 0x01 ∷ 0x10 ∷ 0x1d ∷ 0x00 ∷ 0x00
    ∷ 0x00 ∷ 0x33 ∷ 0x11 ∷ 0x1d ∷ 0x00 ∷ 0x00 ∷ 0x00 ∷ 0x00 ∷ 0x1d ∷ 0x00 ∷ 0x00 ∷ 0x00 ∷ 0x3b ∷ 0x12
    -- strings, global subroutines: none
    ∷ 0x00 ∷ 0x00 ∷ 0x00 ∷ 0x00
    -- charset
    ∷ 0x00 ∷ 0x00 ∷ 0x01
    -- charstrings
    ∷ 0x00 ∷ 0x02 ∷ 0x01 ∷ 0x01 ∷ 0x02 ∷ 0x03 ∷ 0x0e ∷ 0x0e ∷ []

expert_written : cut_read work_size false true (Ok expert_program) (0x4e ∷ []) (1 ∷ []) [] 1 8192 32768 ≡ subset Renumbered expert_subset
unfolding
    all_below all_found_lem subset_bytes subset_by_name new_ids named_bytes copied_bytes names_of texts_of named_entries new_id place_in own_strings_lem has_text pruned renumbered renumbered_subrs
    renumbered_body each count_below those is_in fds_of record_fine rows_fine_lem rows_of rows_from lists given_in two_lengths_lem disagrees renumber_charstring renumber glyph_with_text
    string_text standard_string standard_strings sid_of sid_in codes same_text_lem standard_names charset_bytes id_bytes op_bytes_lem entries_bytes offset_entry copied_entry private_entry
    without last_of last_from trunc_of normal stripped zeros zeros_of index_bytes items_bytes head_bytes table_bytes ends size_for joined total encode bytes_of num_at be t2.keep24 t2.rounded
    t2.number_at t2e.number_bytes t2e.integer_bytes t2e.fixed_bytes tok.tokens_of tok.tokens_from tok.token_at decw.int5_bytes cfffind.locals_words coded_by_lem
expert_written = refl

expert_cut : cut_of false true expert_font (0x4e ∷ []) (1 ∷ []) [] 1 8192 32768 ≡ subset Renumbered expert_subset
unfolding cut_with
expert_cut = ap (λ (g : Result Program Refusal). cut_read work_size false true g (0x4e ∷ []) (1 ∷ []) [] 1 8192 32768) expert_reads ∙ expert_written

-- the codes in the font, where their glyphs are kept
expert_32 : kept_meant expert_program (kept_of 3 (1 ∷ [])) (glyph_of expert_program expert_program.coding 32) ≡ named (0x73 ∷ 0x70 ∷ 0x61 ∷ 0x63 ∷ 0x65 ∷ [])
unfolding glyph_of glyph_with_text string_text standard_string standard_strings standard_names same_text_lem codes those is_in expert_encoding
expert_32 = refl

expert_44 : kept_meant expert_program (kept_of 3 (1 ∷ [])) (glyph_of expert_program expert_program.coding 44) ≡ nothing
unfolding glyph_of glyph_with_text string_text standard_string standard_strings standard_names same_text_lem codes those is_in expert_encoding
expert_44 = refl

expert_0 : kept_meant expert_program (kept_of 3 (1 ∷ [])) (glyph_of expert_program expert_program.coding 0) ≡ named (0x2e ∷ 0x6e ∷ 0x6f ∷ 0x74 ∷ 0x64 ∷ 0x65 ∷ 0x66 ∷ [])
unfolding glyph_of glyph_with_text string_text standard_string standard_strings standard_names same_text_lem codes those is_in expert_encoding
expert_0 = refl

-- and so in the subset
expert_octets : all_below 256 expert_font ≡ true
unfolding all_below
expert_octets = refl

expert_keyed : cid_keyed expert_program.top ≡ false
unfolding last_of last_from
expert_keyed = refl

expert_codes : (q : Program) × (font.read_font expert_subset ≡ Ok q)
    × (meant q (glyph_of q q.coding 32) ≡ named (0x73 ∷ 0x70 ∷ 0x61 ∷ 0x63 ∷ 0x65 ∷ []))
    × (meant q (glyph_of q q.coding 44) ≡ nothing)
    × (meant q (glyph_of q q.coding 0) ≡ named (0x2e ∷ 0x6e ∷ 0x6f ∷ 0x74 ∷ 0x64 ∷ 0x65 ∷ 0x66 ∷ []))
expert_codes =
    let keeps : KeepsCodes true expert_font (1 ∷ []) (subset Renumbered expert_subset)
    = subst (KeepsCodes true expert_font (1 ∷ [])) expert_cut
    (codes-back work_size false true expert_font (0x4e ∷ []) (1 ∷ []) [] 1 8192 32768 (octets_of expert_font expert_octets) none_octets) in
    let k = keeps refl expert_program expert_reads expert_keyed in
    (k.0, k.1, k.2.codes 32 (omega arith) ∙ expert_32, k.2.codes 44 (omega arith) ∙ expert_44, k.2.codes 0 (omega arith) ∙ expert_0)

-- where it is not asked for, such a font is refused
expert_unasked : cut_of false false expert_font (0x4e ∷ []) (1 ∷ []) [] 1 8192 32768 ≡ refused Unsupported
unfolding cut_with last_of last_from
expert_unasked = ap (λ (g : Result Program Refusal). cut_read work_size false false g (0x4e ∷ []) (1 ∷ []) [] 1 8192 32768) expert_reads

-- ---- the standard encoding, which the subset has without an entry

abbrev standard_font : List ℕ
standard_font =
    -- header
    0x01 ∷ 0x00 ∷ 0x04 ∷ 0x01
    -- names
    ∷ 0x00 ∷ 0x01 ∷ 0x01 ∷ 0x01 ∷ 0x02 ∷ 0x58
    -- top DICT: charset, CharStrings
    ∷ 0x00 ∷ 0x01 ∷ 0x01 ∷ 0x01 ∷ 0x05 ∷ 0xa2 ∷ 0x0f ∷ 0xa7 ∷ 0x11
    -- strings, global subroutines: none
    ∷ 0x00 ∷ 0x00 ∷ 0x00 ∷ 0x00
    -- charset: string ids 0 1 13
    ∷ 0x00 ∷ 0x00 ∷ 0x01 ∷ 0x00 ∷ 0x0d
    -- charstrings
    ∷ 0x00 ∷ 0x03 ∷ 0x01 ∷ 0x01 ∷ 0x02 ∷ 0x03 ∷ 0x04 ∷ 0x0e ∷ 0x0e ∷ 0x0e ∷ []

-- what it holds
abbrev standard_program : Program
standard_program =
    record {
      top =
          (record { op = font.charset; operands = whole 23 ∷ [] })
          ∷ (record { op = font.char_strings; operands = whole 28 ∷ [] })
          ∷ [];
      strings = [];
      globals = [];
      charstrings = (0x0e ∷ []) ∷ (0x0e ∷ []) ∷ (0x0e ∷ []) ∷ [];
      ids = 0 ∷ 1 ∷ 13 ∷ [];
      privates = font.empty_private ∷ [];
      fds = 0 ∷ 0 ∷ 0 ∷ [];
      dicts = [];
      coding = font.standard;
    }

standard-reads : font.read_font standard_font ≡ Ok standard_program
unfolding
    font.read_font font.read_table place_of font.set_at font.fonts_at font.font_at font.name_parts font.private_at font.ids_at font.coding_at font.encoding_got read_index told items_of pieces index_at table_at
    data_at judged run_of offsets num_at be dec.number_at dec.real_at dict.dict_of dict.gathered dict.readings_at dict.readings_from dict.entry_at dict.entry_from dict.operator_at
    dict.token_at normal stripped zeros zeros_of trunc_of last_of last_from list_of ids_from charset_at
standard-reads = refl

-- its subset of the glyphs 0 and 1
abbrev standard_subset : List ℕ
standard_subset =
    -- header
    0x01 ∷ 0x00 ∷ 0x04 ∷ 0x01
    -- names
    ∷ 0x00 ∷ 0x01 ∷ 0x01 ∷ 0x01 ∷ 0x02 ∷ 0x4e
    -- top DICT: charset, CharStrings, Private
    ∷ 0x00 ∷ 0x01 ∷ 0x01 ∷ 0x01 ∷ 0x18 ∷ 0x1d ∷ 0x00 ∷ 0x00 ∷ 0x00 ∷ 0x2a ∷ 0x0f ∷ 0x1d ∷ 0x00 ∷ 0x00 ∷ 0x00 ∷ 0x2d ∷ 0x11 ∷ 0x1d ∷ 0x00 ∷ 0x00
    ∷ 0x00 ∷ 0x00 ∷ 0x1d ∷ 0x00 ∷ 0x00 ∷ 0x00 ∷ 0x35 ∷ 0x12
    -- strings, global subroutines: none
    ∷ 0x00 ∷ 0x00 ∷ 0x00 ∷ 0x00
    -- charset
    ∷ 0x00 ∷ 0x00 ∷ 0x01
    -- charstrings
    ∷ 0x00 ∷ 0x02 ∷ 0x01 ∷ 0x01 ∷ 0x02 ∷ 0x03 ∷ 0x0e ∷ 0x0e ∷ []

standard-written : cut_read work_size false true (Ok standard_program) (0x4e ∷ []) (1 ∷ []) [] 1 8192 32768 ≡ subset Renumbered standard_subset
unfolding
    all_below all_found_lem subset_bytes subset_by_name new_ids named_bytes copied_bytes names_of texts_of named_entries new_id place_in own_strings_lem has_text pruned renumbered renumbered_subrs
    renumbered_body each count_below those is_in fds_of record_fine rows_fine_lem rows_of rows_from lists given_in two_lengths_lem disagrees renumber_charstring renumber glyph_with_text
    string_text standard_string standard_strings sid_of sid_in codes same_text_lem standard_names charset_bytes id_bytes op_bytes_lem entries_bytes offset_entry copied_entry private_entry
    without last_of last_from trunc_of normal stripped zeros zeros_of index_bytes items_bytes head_bytes table_bytes ends size_for joined total encode bytes_of num_at be t2.keep24 t2.rounded
    t2.number_at t2e.number_bytes t2e.integer_bytes t2e.fixed_bytes tok.tokens_of tok.tokens_from tok.token_at decw.int5_bytes cfffind.locals_words coded_by_lem
standard-written = refl

standard-cut : cut_of false true standard_font (0x4e ∷ []) (1 ∷ []) [] 1 8192 32768 ≡ subset Renumbered standard_subset
unfolding cut_with
standard-cut = ap (λ (g : Result Program Refusal). cut_read work_size false true g (0x4e ∷ []) (1 ∷ []) [] 1 8192 32768) standard-reads ∙ standard-written

-- the codes in the font, where their glyphs are kept
standard_32 : kept_meant standard_program (kept_of 3 (1 ∷ [])) (glyph_of standard_program standard_program.coding 32) ≡ named (0x73 ∷ 0x70 ∷ 0x61 ∷ 0x63 ∷ 0x65 ∷ [])
unfolding glyph_of glyph_with_text string_text standard_string standard_strings standard_names same_text_lem codes those is_in standard_encoding
standard_32 = refl

standard_44 : kept_meant standard_program (kept_of 3 (1 ∷ [])) (glyph_of standard_program standard_program.coding 44) ≡ nothing
unfolding glyph_of glyph_with_text string_text standard_string standard_strings standard_names same_text_lem codes those is_in standard_encoding
standard_44 = refl

standard_0 : kept_meant standard_program (kept_of 3 (1 ∷ [])) (glyph_of standard_program standard_program.coding 0) ≡ named (0x2e ∷ 0x6e ∷ 0x6f ∷ 0x74 ∷ 0x64 ∷ 0x65 ∷ 0x66 ∷ [])
unfolding glyph_of glyph_with_text string_text standard_string standard_strings standard_names same_text_lem codes those is_in standard_encoding
standard_0 = refl

-- and so in the subset
standard_octets : all_below 256 standard_font ≡ true
unfolding all_below
standard_octets = refl

standard-keyed : cid_keyed standard_program.top ≡ false
unfolding last_of last_from
standard-keyed = refl

standard-codes : (q : Program) × (font.read_font standard_subset ≡ Ok q)
    × (meant q (glyph_of q q.coding 32) ≡ named (0x73 ∷ 0x70 ∷ 0x61 ∷ 0x63 ∷ 0x65 ∷ []))
    × (meant q (glyph_of q q.coding 44) ≡ nothing)
    × (meant q (glyph_of q q.coding 0) ≡ named (0x2e ∷ 0x6e ∷ 0x6f ∷ 0x74 ∷ 0x64 ∷ 0x65 ∷ 0x66 ∷ []))
standard-codes =
    let keeps : KeepsCodes true standard_font (1 ∷ []) (subset Renumbered standard_subset)
    = subst (KeepsCodes true standard_font (1 ∷ [])) standard-cut
    (codes-back work_size false true standard_font (0x4e ∷ []) (1 ∷ []) [] 1 8192 32768 (octets_of standard_font standard_octets) none_octets) in
    let k = keeps refl standard_program standard-reads standard-keyed in
    (k.0, k.1, k.2.codes 32 (omega arith) ∙ standard_32, k.2.codes 44 (omega arith) ∙ standard_44, k.2.codes 0 (omega arith) ∙ standard_0)
