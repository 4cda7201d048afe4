-- Edges of the codes (document 02, Wish 4), computed: what a code names, which encodings are read, and refusal 13.
use Rattle.std.specs.Prelude.{ℕ, zero, suc, ◌≡◌, refl, false, List, [], ◌∷◌, None, Some, Result, Ok, Err}
use Rattle.octets.specs.Octets.{be, num_at, bytes_of}
use Rattle.octets.specs.Lists.{joined}
use Rattle.index.specs.Index.{offsets, run_of, judged, data_at, table_at, index_at, pieces, items_of, told, read_index}
use Rattle.index.specs.Write.{total, size_for, ends, table_bytes, head_bytes, items_bytes, index_bytes}
use Rattle.decimal.specs.Decimal.{zeros_of, zeros, stripped, normal}
use Rattle.decimal.specs.Real.{nibbles, text_of, exp_digits, exponent, mantissa, form_of, value_of}
use Rattle.decimal.specs.Number as dec
use Rattle.decimal.specs.Values.{trunc_of}
use Rattle.decimal.specs.Written as decw
use Rattle.dict.specs.Dict as dict
use Rattle.dict.specs.Lookup.{last_from, last_of, offset_in}
use Rattle.dict.specs.Places.{listed, entries_of}
use Rattle.dict_write.specs.Written.{copied_entry, op_bytes_lem, entries_bytes, offset_entry, private_entry, without}
use Rattle.charset.specs.CharsetBytes.{id_bytes, charset_bytes}
use Rattle.charset.specs.Encoding.{encoding_at}
use Rattle.charset.specs.Codes.{by_string, codes_from, range_from, ranges_from, supplied_from, namings_by, namings_at}
use Rattle.strings.specs.Table.{standard_names}
use Rattle.strings.specs.Text.{codes, same_text_lem}
use Rattle.strings.specs.Strings.{string_text, standard_string, standard_strings, sid_in, sid_of}
use Rattle.find.specs.Find.{glyph_with_text}
use Rattle.opentype.specs.Opentype.{place_of}
use Rattle.cff.specs.Font.{then, or_zero, Coding, standard, expert, custom, Program, empty_private, encoding, coding_at, encoding_got, ids_at, private_at, name_parts, font_at, fonts_at, set_at, read_table, read_font}
use Rattle.cff.specs.Find.{locals_words, read_as}
use Rattle.subset.specs.Kept.{is_in}
use Rattle.subset.specs.Texts.{has_text, own_strings_lem, place_in, new_id, named_entries, texts_of, names_of}
use Rattle.subset.specs.Pruned.{Pruned}
use Rattle.subset.specs.Codes.{Pair, last_named, glyph_of, pairs_from, coded_by_lem, pairs, pair_bytes, coded_bytes}
use Rattle.subset.specs.Subset.{named_bytes, copied_bytes, new_ids, subset_by_name, subset_bytes}
use Rattle.subset.specs.Cut.{refused, written}
use Rattle.refusal.specs.declared.Refusal.{Refusal}
use Rattle.refusal.specs.declared.Refusal.TheVariants.{Truncated, Malformed, Unsupported, Output, Pairs}
use Rattle.subset.specs.declared.Way.TheVariants.{Renumbered}

-- four glyphs: `.notdef`, `space`, `A` by a string of its own, and one whose id is past the strings
abbrev font : Program
font =
    record {
      top = [];
      strings = (0x41 ∷ []) ∷ [];
      globals = [];
      charstrings = (0x0e ∷ []) ∷ (0x0e ∷ []) ∷ (0x0e ∷ []) ∷ (0x0e ∷ []) ∷ [];
      ids = 0 ∷ 1 ∷ 391 ∷ 500 ∷ [];
      privates = empty_private ∷ [];
      fds = 0 ∷ 0 ∷ 0 ∷ 0 ∷ [];
      dicts = [];
      coding = standard;
    }

-- ---- what a code names

-- an id past the strings is the empty string, by which the glyph of another such id is found
past_the_strings : glyph_of font (custom (by_string 65 600 ∷ [])) 65 ≡ Some 3
unfolding last_named glyph_of glyph_with_text string_text standard_string standard_strings standard_names same_text_lem codes
past_the_strings = refl

-- a range at 255 of two glyphs and one at 65: 255 names glyph 1, no code glyph 2, not 0 either, and 65 glyph 3
abbrev ranges : List ℕ
ranges = 0x01 ∷ 0x02 ∷ 0xff ∷ 0x01 ∷ 0x41 ∷ 0x00 ∷ []

range-at_255 : glyph_of font (custom (namings_at ranges 0)) 255 ≡ Some 1
unfolding last_named glyph_of be codes_from range_from ranges_from supplied_from namings_by namings_at
range-at_255 = refl

range-past_255 : glyph_of font (custom (namings_at ranges 0)) 0 ≡ None
unfolding last_named glyph_of be codes_from range_from ranges_from supplied_from namings_by namings_at
range-past_255 = refl

range-after : glyph_of font (custom (namings_at ranges 0)) 65 ≡ Some 3
unfolding last_named glyph_of be codes_from range_from ranges_from supplied_from namings_by namings_at
range-after = refl

-- glyph 0 by a supplement: the pair is `07 0000`
glyph_0 : coded_bytes (coded_by_lem font (0 ∷ []) [] (custom (by_string 7 0 ∷ []))) ≡ 0x80 ∷ 0x00 ∷ 0x01 ∷ 0x07 ∷ 0x00 ∷ 0x00 ∷ []
unfolding
    coded_by_lem pairs_from pair_bytes last_named is_in new_id place_in sid_of sid_in glyph_with_text string_text standard_string standard_strings standard_names same_text_lem codes bytes_of
glyph_0 = refl

-- ---- the encoding that a top DICT says, of a font without a byte

abbrev coding_in : List ℕ → Result Coding Refusal
coding_in top = then (or_zero (offset_in encoding (entries_of top))) (encoding_got [])

-- the standard one: absent, 0, minus zero, two operands, none; the Expert one; an offset past the font; one that is not whole
codings :
    (coding_in [] ≡ Ok standard)
    × (coding_in (0x8b ∷ 0x10 ∷ []) ≡ Ok standard)
    × (coding_in (0x1e ∷ 0xe0 ∷ 0xff ∷ 0x10 ∷ []) ≡ Ok standard)
    × (coding_in (0x8c ∷ 0x8c ∷ 0x10 ∷ []) ≡ Ok standard)
    × (coding_in (0x10 ∷ []) ≡ Ok standard)
    × (coding_in (0x8c ∷ 0x10 ∷ []) ≡ Ok expert)
    × (coding_in (0x8d ∷ 0x10 ∷ []) ≡ Err Truncated)
    × (coding_in (0x1e ∷ 0x1a ∷ 0x5f ∷ 0x10 ∷ []) ≡ Err Malformed)
unfolding be num_at zeros_of zeros stripped normal nibbles text_of exp_digits exponent mantissa form_of value_of dec.real_at dec.number_at dict.operator_at dict.token_at
    dict.entry_from dict.entry_at dict.readings_from dict.readings_at dict.gathered dict.dict_of listed last_from last_of trunc_of encoding_at coding_at encoding_got
codings = (refl, refl, refl, refl, refl, refl, refl, refl)

-- the Expert charsets stay unsupported
charset_1 : ids_at [] 1 1 ≡ Err Unsupported
unfolding ids_at
charset_1 = refl

charset_2 : ids_at [] 1 2 ≡ Err Unsupported
unfolding ids_at
charset_2 = refl

-- two fonts, of which the second has the Expert Encoding
abbrev later_expert : List ℕ
later_expert =
    0x01 ∷ 0x00 ∷ 0x04 ∷ 0x01 ∷ 0x00 ∷ 0x02 ∷ 0x01 ∷ 0x01 ∷ 0x02 ∷ 0x03 ∷ 0x58 ∷ 0x59 ∷ 0x00 ∷ 0x02 ∷ 0x01 ∷ 0x01 ∷ 0x03 ∷ 0x07 ∷ 0xa7 ∷ 0x11 ∷ 0xad ∷ 0x11 ∷ 0x8c ∷ 0x10
    ∷ 0x00 ∷ 0x00 ∷ 0x00 ∷ 0x00 ∷ 0x00 ∷ 0x01 ∷ 0x01 ∷ 0x01 ∷ 0x02 ∷ 0x0e ∷ 0x00 ∷ 0x02 ∷ 0x01 ∷ 0x01 ∷ 0x02 ∷ 0x03 ∷ 0x0e ∷ 0x0e ∷ []

later-expert : read_as (read_font later_expert) ≡ Ok (record { glyphs = 1; globals = 0; strings = 0; cid = false; work = 2 })
unfolding
    read_font read_table place_of set_at fonts_at font_at name_parts private_at ids_at coding_at encoding_got read_index told index_at table_at data_at run_of judged offsets pieces items_of num_at be
    dict.dict_of dict.gathered dict.readings_at dict.readings_from dict.entry_at dict.entry_from dict.token_at dict.operator_at dec.number_at dec.real_at normal zeros zeros_of stripped last_of last_from
    trunc_of locals_words
later-expert = refl

-- ---- 13: more than 255 pairs, before 10 and 11

-- n pairs
unfoldable some : ℕ → List Pair
some zero = []
some (suc n) = record { code = n; id = 1 } ∷ some n

abbrev bodies : Pruned
bodies = record { way = Renumbered; bodies = record { globals = []; locals = [] ∷ []; charstrings = (0x0e ∷ []) ∷ [] } }

-- all 256 codes, and no room for the subset
all_codes : written font (pairs (some 256)) (0x4e ∷ []) (0 ∷ []) (0 ∷ []) 0 bodies ≡ refused Pairs
unfolding
    some subset_bytes subset_by_name new_ids copied_bytes named_bytes names_of texts_of named_entries new_id place_in own_strings_lem has_text string_text standard_string standard_strings sid_of sid_in codes
    same_text_lem standard_names pair_bytes charset_bytes id_bytes op_bytes_lem entries_bytes offset_entry copied_entry private_entry without last_of last_from decw.int5_bytes index_bytes
    items_bytes head_bytes table_bytes ends size_for joined total bytes_of num_at be
all_codes = refl

-- one fewer
all_but_one : written font (pairs (some 255)) (0x4e ∷ []) (0 ∷ []) (0 ∷ []) 0 bodies ≡ refused Output
unfolding
    some subset_bytes subset_by_name new_ids copied_bytes named_bytes names_of texts_of named_entries new_id place_in own_strings_lem has_text string_text standard_string standard_strings sid_of sid_in codes
    same_text_lem standard_names pair_bytes charset_bytes id_bytes op_bytes_lem entries_bytes offset_entry copied_entry private_entry without last_of last_from decw.int5_bytes index_bytes
    items_bytes head_bytes table_bytes ends size_for joined total bytes_of num_at be
all_but_one = refl
