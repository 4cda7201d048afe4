-- Document 01, 'One sheet, whole', byte for byte.
use Rattle.std.specs.Prelude.{ℕ, ◌≡◌, refl, false, List, [], ◌∷◌}
use Rattle.octets.specs.Octets.{be, num_at, bytes_of}
use Rattle.octets.specs.Lists.{all_below, joined}
use Rattle.type2_number.specs.Number.{keep24, rounded}
use Rattle.type2_number.specs.Number as t2
use Rattle.type2_number.specs.Encoding as t2e
use Rattle.charstring.specs.Token as tok
use Rattle.charstring.specs.Encode.{encode}
use Rattle.index.specs.Index.{offsets, run_of, judged, data_at, table_at, index_at, pieces, items_of, told, read_index}
use Rattle.index.specs.Write.{total, size_for, ends, table_bytes, head_bytes, items_bytes, index_bytes}
use Rattle.decimal.specs.Decimal.{zeros_of, zeros, stripped, normal}
use Rattle.decimal.specs.Number as dec
use Rattle.decimal.specs.Values.{trunc_of}
use Rattle.decimal.specs.Written as decw
use Rattle.dict.specs.Dict as dict
use Rattle.dict.specs.Lookup.{last_from, last_of}
use Rattle.dict_write.specs.Written.{copied_entry, op_bytes_lem, operands_bytes, entries_bytes, offset_entry, private_entry, without}
use Rattle.charset.specs.Listed.{list_of}
use Rattle.charset.specs.CharsetBytes.{id_bytes, charset_bytes}
use Rattle.strings.specs.Table.{standard_names}
use Rattle.strings.specs.Text.{codes, same_text_lem}
use Rattle.strings.specs.Strings.{string_text, standard_string, standard_strings, sid_in, sid_of}
use Rattle.find.specs.Find.{glyph_with_text}
use Rattle.prune.specs.Renumber.{renumber, renumber_charstring}
use Rattle.record.specs.Record.{rows_from, rows_of, rows_fine_lem, record_fine, lists, given_in, disagrees, two_lengths_lem}
use Rattle.opentype.specs.Opentype.{place_of}
use Rattle.cff.specs.Font as font
use Rattle.cff.specs.Find as cfffind
use Rattle.subset.specs.Kept.{is_in, those, fds_of}
use Rattle.bits.specs.Bits.{count_below}
use Rattle.subset.specs.Pruned.{each, renumbered_body, renumbered_subrs, renumbered, pruned}
use Rattle.subset.specs.Texts.{has_text, own_strings_lem, place_in, new_id, named_entries, texts_of, names_of}
use Rattle.subset.specs.Subset.{named_bytes, copied_bytes, new_ids, subset_by_name, subset_bytes}
use Rattle.subset.specs.Cut.{subset, all_found_lem, cut_with, cut_of}
use Rattle.subset.specs.declared.Way.TheVariants.{Renumbered}

abbrev pub sheet : List ℕ
sheet =
    0x01 ∷ 0x00 ∷ 0x04 ∷ 0x01 ∷ 0x00 ∷ 0x01 ∷ 0x01 ∷ 0x01 ∷ 0x02 ∷ 0x58 ∷ 0x00 ∷ 0x01 ∷ 0x01 ∷ 0x01 ∷ 0x03 ∷ 0xa0 ∷ 0x11 ∷ 0x00 ∷ 0x00 ∷ 0x00 ∷ 0x00
    ∷ 0x00 ∷ 0x02 ∷ 0x01 ∷ 0x01 ∷ 0x02 ∷ 0x03 ∷ 0x0e ∷ 0x0e ∷ []

-- its subset
abbrev pub sheet_subset : List ℕ
sheet_subset =
    0x01 ∷ 0x00 ∷ 0x04 ∷ 0x01 ∷ 0x00 ∷ 0x01 ∷ 0x01 ∷ 0x01 ∷ 0x02 ∷ 0x41 ∷ 0x00 ∷ 0x01 ∷ 0x01 ∷ 0x01 ∷ 0x18 ∷ 0x1d
    ∷ 0x00 ∷ 0x00 ∷ 0x00 ∷ 0x2a ∷ 0x0f ∷ 0x1d ∷ 0x00 ∷ 0x00 ∷ 0x00 ∷ 0x2d ∷ 0x11 ∷ 0x1d ∷ 0x00 ∷ 0x00 ∷ 0x00 ∷ 0x00
    ∷ 0x1d ∷ 0x00 ∷ 0x00 ∷ 0x00 ∷ 0x35 ∷ 0x12 ∷ 0x00 ∷ 0x00 ∷ 0x00 ∷ 0x00 ∷ 0x00 ∷ 0x00 ∷ 0x01 ∷ 0x00 ∷ 0x02 ∷ 0x01
    ∷ 0x01 ∷ 0x02 ∷ 0x03 ∷ 0x0e ∷ 0x0e ∷ []

pub the_sheet : cut_of false false sheet (0x41 ∷ []) (1 ∷ []) [] 1 8192 32768 ≡ subset Renumbered sheet_subset
unfolding
    cut_with all_below all_found_lem subset_bytes subset_by_name new_ids named_bytes copied_bytes names_of texts_of named_entries new_id place_in own_strings_lem has_text pruned renumbered
    renumbered_subrs renumbered_body each count_below those is_in fds_of record_fine rows_fine_lem rows_of rows_from lists given_in two_lengths_lem disagrees renumber_charstring renumber
    glyph_with_text string_text standard_string standard_strings sid_of sid_in codes same_text_lem standard_names charset_bytes id_bytes list_of op_bytes_lem operands_bytes entries_bytes offset_entry copied_entry private_entry without last_of last_from trunc_of
    normal stripped zeros zeros_of index_bytes items_bytes head_bytes table_bytes ends size_for joined total read_index told items_of pieces index_at table_at data_at judged run_of
    offsets encode bytes_of num_at be keep24 rounded t2.number_at t2e.number_bytes t2e.integer_bytes t2e.fixed_bytes tok.tokens_of tok.tokens_from tok.token_at dec.number_at dec.real_at
    decw.int5_bytes decw.number_bytes decw.int_bytes dict.dict_of dict.gathered dict.readings_at dict.readings_from dict.entry_at dict.entry_from dict.operator_at dict.token_at
    font.read_font font.read_table place_of font.set_at font.fonts_at font.font_at font.name_parts font.private_at font.ids_at font.coding_at font.encoding_got cfffind.locals_words
the_sheet = refl
