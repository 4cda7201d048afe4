-- A CID-keyed font cut in the three ways (document 01, 'Layout'), byte for byte: glyphs 1, 3 and 4 of `cid_font` under the name A. The bytes
-- expected are those of the Rust's subset_cid, with its own trace, with a record that renumber_cid refuses, and without a trace.
use Rattle.std.specs.Prelude.{ℕ, ◌≡◌, refl, true, false, List, [], ◌∷◌}
use Rattle.std.proofs.Common.{ap, ◌∙◌}
use Rattle.octets.specs.Octets.{be, num_at, bytes_of}
use Rattle.octets.specs.Lists.{all_below, joined}
use Rattle.index.specs.Write.{total, size_for, ends, table_bytes, head_bytes, items_bytes, index_bytes}
use Rattle.decimal.specs.Decimal.{zeros_of, zeros, stripped, normal}
use Rattle.decimal.specs.Values.{trunc_of}
use Rattle.decimal.specs.Written.{int5_bytes, number_bytes, int_bytes}
use Rattle.dict.specs.Lookup.{last_from, last_of}
use Rattle.dict_write.specs.Written.{copied_entry, op_bytes_lem, operands_bytes, entry_bytes, entries_bytes, offset_entry, private_entry, without}
use Rattle.charset.specs.CharsetBytes.{id_bytes, charset_bytes}
use Rattle.charset.specs.FdSelectBytes as select
use Rattle.strings.specs.Table.{standard_names}
use Rattle.strings.specs.Text.{codes, same_text_lem}
use Rattle.strings.specs.Strings.{string_text, standard_string, standard_strings, sid_in, sid_of}
use Rattle.find.specs.Find.{glyph_with_id}
use Rattle.record.specs.Record.{rows_from, rows_of, rows_fine_lem, record_fine}
use Rattle.cff.specs.Find.{work_size, locals_words}
use Rattle.subset.specs.Kept.{is_in, those, placed, sorted_by, fds_of, new_fd}
use Rattle.subset.specs.Pruned.{Pruned, pruned}
use Rattle.subset.specs.Texts.{has_text, own_strings_lem, place_in, new_id, named_entries, texts_of}
use Rattle.subset.specs.Codes.{none}
use Rattle.subset.specs.Subset.{named_bytes, copied_bytes, private_parts, font_dicts, cids_of, new_fds, subset_by_cid, subset_bytes}
use Rattle.subset.specs.Cut.{Outcome, subset, all_found_lem, written, cut_read, cut_with, cut_of}
use Rattle.subset.specs.CidFont.{cid_font, cid_program, reads, reach, reach-rows, wrong_reach, wrong-rows}
use Rattle.subset.specs.BodiesExample.{used, order, renumbered_bodies, unrenumbered_bodies, bodies-renumbered, bodies-stubbed, bodies-copied}
use Rattle.subset.specs.declared.Way.{Way}
use Rattle.subset.specs.declared.Way.TheVariants.{Renumbered, Stubbed, Copied}

-- the call, with a record and a flag
abbrev pub cut : List ℕ → ℕ → Outcome
cut rec flag = cut_of true false cid_font (0x41 ∷ []) (1 ∷ 3 ∷ 4 ∷ []) rec flag 8192 32768

-- way 0
abbrev pub renumbered_bytes : List ℕ
renumbered_bytes =
    -- header
    0x01 ∷ 0x00 ∷ 0x04 ∷ 0x01
    -- names
    ∷ 0x00 ∷ 0x01 ∷ 0x01 ∷ 0x01 ∷ 0x02 ∷ 0x41
    -- top DICT: ROS, CIDCount, charset, FDSelect, CharStrings, FDArray
    ∷ 0x00 ∷ 0x01 ∷ 0x01 ∷ 0x01 ∷ 0x27 ∷ 0xf8 ∷ 0x1b ∷ 0xf8 ∷ 0x1c ∷ 0x8b ∷ 0x0c ∷ 0x1e ∷ 0x1c ∷ 0x22 ∷ 0x10 ∷ 0x0c ∷ 0x22 ∷ 0x1d ∷ 0x00 ∷ 0x00
    ∷ 0x00 ∷ 0x47 ∷ 0x0f ∷ 0x1d ∷ 0x00 ∷ 0x00 ∷ 0x00 ∷ 0x4e ∷ 0x0c ∷ 0x25 ∷ 0x1d ∷ 0x00 ∷ 0x00 ∷ 0x00 ∷ 0x5f ∷ 0x11 ∷ 0x1d ∷ 0x00 ∷ 0x00 ∷ 0x00
    ∷ 0x76 ∷ 0x0c ∷ 0x24
    -- strings
    ∷ 0x00 ∷ 0x02 ∷ 0x01 ∷ 0x01 ∷ 0x03 ∷ 0x05 ∷ 0x52 ∷ 0x67 ∷ 0x4f ∷ 0x72
    -- global subroutines
    ∷ 0x00 ∷ 0x01 ∷ 0x01 ∷ 0x01 ∷ 0x04 ∷ 0x13 ∷ 0xff ∷ 0x0b
    -- charset: CIDs 0 1 3 5
    ∷ 0x00 ∷ 0x00 ∷ 0x01 ∷ 0x00 ∷ 0x03 ∷ 0x00 ∷ 0x05
    -- FDSelect
    ∷ 0x03 ∷ 0x00 ∷ 0x04 ∷ 0x00 ∷ 0x00 ∷ 0x00 ∷ 0x00 ∷ 0x01 ∷ 0x01 ∷ 0x00 ∷ 0x02 ∷ 0x00 ∷ 0x00 ∷ 0x03 ∷ 0x01 ∷ 0x00 ∷ 0x04
    -- charstrings
    ∷ 0x00 ∷ 0x04 ∷ 0x01 ∷ 0x01 ∷ 0x02 ∷ 0x04 ∷ 0x0a ∷ 0x10 ∷ 0x0e ∷ 0x8d ∷ 0x0e ∷ 0x8c ∷ 0x8c ∷ 0x01 ∷ 0x20 ∷ 0x0a ∷ 0x0e ∷ 0x8c ∷ 0x8c ∷ 0x01
    ∷ 0x20 ∷ 0x0a ∷ 0x0e
    -- Font DICTs
    ∷ 0x00 ∷ 0x02 ∷ 0x01 ∷ 0x01 ∷ 0x0c ∷ 0x17 ∷ 0x1d ∷ 0x00 ∷ 0x00 ∷ 0x00 ∷ 0x06 ∷ 0x1d ∷ 0x00 ∷ 0x00 ∷ 0x00 ∷ 0x92 ∷ 0x12 ∷ 0x1d ∷ 0x00 ∷ 0x00
    ∷ 0x00 ∷ 0x08 ∷ 0x1d ∷ 0x00 ∷ 0x00 ∷ 0x00 ∷ 0xa0 ∷ 0x12
    -- Private DICT and local subroutines of FD 0
    ∷ 0x1d ∷ 0x00 ∷ 0x00 ∷ 0x00 ∷ 0x06 ∷ 0x13 ∷ 0x00 ∷ 0x01 ∷ 0x01 ∷ 0x01 ∷ 0x04 ∷ 0x20 ∷ 0x1d ∷ 0x0b
    -- Private DICT and local subroutines of FD 2
    ∷ 0x8d ∷ 0x14 ∷ 0x1d ∷ 0x00 ∷ 0x00 ∷ 0x00 ∷ 0x08 ∷ 0x13 ∷ 0x00 ∷ 0x01 ∷ 0x01 ∷ 0x01 ∷ 0x06 ∷ 0x8d ∷ 0x16 ∷ 0x13 ∷ 0xff ∷ 0x0b ∷ []

-- ways 1 and 2, each unreached subroutine being one byte
abbrev pub unrenumbered_bytes : ℕ → List ℕ
unrenumbered_bytes unreached =
    -- header
    0x01 ∷ 0x00 ∷ 0x04 ∷ 0x01
    -- names
    ∷ 0x00 ∷ 0x01 ∷ 0x01 ∷ 0x01 ∷ 0x02 ∷ 0x41
    -- top DICT: ROS, CIDCount, charset, FDSelect, CharStrings, FDArray
    ∷ 0x00 ∷ 0x01 ∷ 0x01 ∷ 0x01 ∷ 0x27 ∷ 0xf8 ∷ 0x1b ∷ 0xf8 ∷ 0x1c ∷ 0x8b ∷ 0x0c ∷ 0x1e ∷ 0x1c ∷ 0x22 ∷ 0x10 ∷ 0x0c ∷ 0x22 ∷ 0x1d ∷ 0x00 ∷ 0x00
    ∷ 0x00 ∷ 0x49 ∷ 0x0f ∷ 0x1d ∷ 0x00 ∷ 0x00 ∷ 0x00 ∷ 0x50 ∷ 0x0c ∷ 0x25 ∷ 0x1d ∷ 0x00 ∷ 0x00 ∷ 0x00 ∷ 0x61 ∷ 0x11 ∷ 0x1d ∷ 0x00 ∷ 0x00 ∷ 0x00
    ∷ 0x78 ∷ 0x0c ∷ 0x24
    -- strings
    ∷ 0x00 ∷ 0x02 ∷ 0x01 ∷ 0x01 ∷ 0x03 ∷ 0x05 ∷ 0x52 ∷ 0x67 ∷ 0x4f ∷ 0x72
    -- global subroutines
    ∷ 0x00 ∷ 0x02 ∷ 0x01 ∷ 0x01 ∷ 0x02 ∷ 0x05 ∷ unreached ∷ 0x13 ∷ 0xff ∷ 0x0b
    -- charset: CIDs 0 1 3 5
    ∷ 0x00 ∷ 0x00 ∷ 0x01 ∷ 0x00 ∷ 0x03 ∷ 0x00 ∷ 0x05
    -- FDSelect
    ∷ 0x03 ∷ 0x00 ∷ 0x04 ∷ 0x00 ∷ 0x00 ∷ 0x00 ∷ 0x00 ∷ 0x01 ∷ 0x01 ∷ 0x00 ∷ 0x02 ∷ 0x00 ∷ 0x00 ∷ 0x03 ∷ 0x01 ∷ 0x00 ∷ 0x04
    -- charstrings
    ∷ 0x00 ∷ 0x04 ∷ 0x01 ∷ 0x01 ∷ 0x02 ∷ 0x04 ∷ 0x0a ∷ 0x10 ∷ 0x0e ∷ 0x8d ∷ 0x0e ∷ 0x8c ∷ 0x8c ∷ 0x01 ∷ 0x21 ∷ 0x0a ∷ 0x0e ∷ 0x8c ∷ 0x8c ∷ 0x01
    ∷ 0x21 ∷ 0x0a ∷ 0x0e
    -- Font DICTs
    ∷ 0x00 ∷ 0x02 ∷ 0x01 ∷ 0x01 ∷ 0x0c ∷ 0x17 ∷ 0x1d ∷ 0x00 ∷ 0x00 ∷ 0x00 ∷ 0x06 ∷ 0x1d ∷ 0x00 ∷ 0x00 ∷ 0x00 ∷ 0x94 ∷ 0x12 ∷ 0x1d ∷ 0x00 ∷ 0x00
    ∷ 0x00 ∷ 0x08 ∷ 0x1d ∷ 0x00 ∷ 0x00 ∷ 0x00 ∷ 0xa4 ∷ 0x12
    -- Private DICT and local subroutines of FD 0
    ∷ 0x1d ∷ 0x00 ∷ 0x00 ∷ 0x00 ∷ 0x06 ∷ 0x13 ∷ 0x00 ∷ 0x02 ∷ 0x01 ∷ 0x01 ∷ 0x02 ∷ 0x05 ∷ unreached ∷ 0x21 ∷ 0x1d ∷ 0x0b
    -- Private DICT and local subroutines of FD 2
    ∷ 0x8d ∷ 0x14 ∷ 0x1d ∷ 0x00 ∷ 0x00 ∷ 0x00 ∷ 0x08 ∷ 0x13 ∷ 0x00 ∷ 0x02 ∷ 0x01 ∷ 0x01 ∷ 0x02 ∷ 0x07 ∷ unreached ∷ 0x8d ∷ 0x16 ∷ 0x13 ∷ 0xff ∷ 0x0b ∷ []

-- what is written of bodies
abbrev written_of : Pruned → Outcome
written_of q = written cid_program none (0x41 ∷ []) (0 ∷ 1 ∷ 3 ∷ 4 ∷ []) order 32768 q

-- a call whose record and flag are of the right form is not refused before it is written
cut-written : (rec : List ℕ) (flag : ℕ) → record_fine true rec flag ≡ true → cut rec flag ≡ written_of (pruned cid_program (rows_of rec) used order flag)
unfolding cut_with all_below all_found_lem glyph_with_id is_in those placed sorted_by fds_of last_of last_from trunc_of locals_words normal stripped zeros zeros_of
cut-written rec flag fine = ap (λ g. cut_read work_size true false g (0x41 ∷ []) (1 ∷ 3 ∷ 4 ∷ []) rec flag 8192 32768) reads ∙ rw fine

-- what is written of the renumbered bodies
written-renumbered : written_of (record { way = Renumbered; bodies = renumbered_bodies }) ≡ subset Renumbered renumbered_bytes
unfolding
    subset_bytes subset_by_cid new_fds cids_of font_dicts private_parts copied_bytes named_bytes texts_of named_entries new_id place_in own_strings_lem has_text is_in those fds_of new_fd
    string_text standard_string standard_strings sid_of sid_in codes same_text_lem standard_names charset_bytes id_bytes select.changes select.entry_bytes select.fd_select_bytes
    op_bytes_lem operands_bytes entry_bytes entries_bytes offset_entry copied_entry private_entry without last_of last_from trunc_of normal stripped zeros zeros_of int5_bytes number_bytes int_bytes
    index_bytes items_bytes head_bytes table_bytes ends size_for joined total bytes_of num_at be
written-renumbered = refl

-- and of the others, whatever the way and the byte
written_unrenumbered : (way : Way) (unreached : ℕ) → written_of (record { way = way; bodies = unrenumbered_bodies unreached }) ≡ subset way (unrenumbered_bytes unreached)
unfolding
    subset_bytes subset_by_cid new_fds cids_of font_dicts private_parts copied_bytes named_bytes texts_of named_entries new_id place_in own_strings_lem has_text is_in those fds_of new_fd
    string_text standard_string standard_strings sid_of sid_in codes same_text_lem standard_names charset_bytes id_bytes select.changes select.entry_bytes select.fd_select_bytes
    op_bytes_lem operands_bytes entry_bytes entries_bytes offset_entry copied_entry private_entry without last_of last_from trunc_of normal stripped zeros zeros_of int5_bytes number_bytes int_bytes
    index_bytes items_bytes head_bytes table_bytes ends size_for joined total bytes_of num_at be
written_unrenumbered way unreached = refl

-- ---- the three ways

-- the records have the right form
fine_reach : record_fine true reach 1 ≡ true
unfolding record_fine rows_fine_lem rows_of rows_from num_at be
fine_reach = refl

fine_wrong : record_fine true wrong_reach 1 ≡ true
unfolding record_fine rows_fine_lem rows_of rows_from num_at be
fine_wrong = refl

fine_none : record_fine true [] 0 ≡ true
unfolding record_fine rows_fine_lem rows_of rows_from
fine_none = refl

none_rows : rows_of [] ≡ []
unfolding rows_of rows_from
none_rows = refl

-- the reached subroutines alone, with new numbers
pub renumbers : cut reach 1 ≡ subset Renumbered renumbered_bytes
renumbers =
    cut-written reach 1 fine_reach ∙ ap (λ rs. written_of (pruned cid_program rs used order 1)) reach-rows ∙ ap (λ q. written_of q) bodies-renumbered ∙ written-renumbered

-- a recorded number without a subroutine: each unreached subroutine is a return
pub stubs : cut wrong_reach 1 ≡ subset Stubbed (unrenumbered_bytes 0x0b)
stubs =
    cut-written wrong_reach 1 fine_wrong ∙ ap (λ rs. written_of (pruned cid_program rs used order 1)) wrong-rows ∙ ap (λ q. written_of q) bodies-stubbed
    ∙ written_unrenumbered Stubbed 0x0b

-- glyphs that could not be traced: all as it was
pub copies : cut [] 0 ≡ subset Copied (unrenumbered_bytes 0x0e)
copies =
    cut-written [] 0 fine_none ∙ ap (λ rs. written_of (pruned cid_program rs used order 0)) none_rows ∙ ap (λ q. written_of q) bodies-copied
    ∙ written_unrenumbered Copied 0x0e
