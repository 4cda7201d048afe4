-- Worked examples, computed: the refusals of reading that Examples does not have (2, 4, 5), 6 of an item, a set of two fonts, a name and a CID that
-- two glyphs have, the empty name, and an FD past the FD array. Each font is built as document 01's.
use Rattle.std.specs.Prelude.{ℕ, ◌<◌, ◌≡◌, refl, false, List, [], ◌∷◌, length, Result, Ok, Err, Some}
use Rattle.std.proofs.Common.{sym, ap, ◌∙◌, arith}
use Rattle.octets.specs.Octets.{be, num_at}
use Rattle.octets.specs.Lists.{all_below}
use Rattle.index.specs.Index.{offsets, run_of, judged, data_at, table_at, index_at, pieces, items_of, told, read_index}
use Rattle.decimal.specs.Decimal.{zeros_of, zeros, stripped, normal}
use Rattle.decimal.specs.Real.{nibbles, text_of, exp_digits, exponent, mantissa, form_of, value_of}
use Rattle.decimal.specs.Number.{real_at, number_at}
use Rattle.decimal.specs.Values.{trunc_of}
use Rattle.dict.specs.Dict.{token_at, operator_at, entry_from, entry_at, readings_from, readings_at, gathered, dict_of}
use Rattle.dict.specs.Lookup.{last_from, last_of}
use Rattle.charset.specs.Listed.{list_of}
use Rattle.charset.specs.Charset.{ids_from, charset_at}
use Rattle.charset.specs.FdSelect.{fd_select_at}
use Rattle.strings.specs.Table.{standard_names}
use Rattle.strings.specs.Text.{codes, same_text_lem}
use Rattle.strings.specs.Strings.{standard_strings, standard_string, string_text}
use Rattle.find.specs.Find.{glyph_with_id, glyph_with_text}
use Rattle.opentype.specs.Opentype.{place_of}
use Rattle.cff.specs.Font.{locals_at, private_data, private_at, privates_at, ids_at, fds_at, coding_at, encoding_got, cid_parts, name_parts, font_at, fonts_at, set_at, read_table, read_at, read_font}
use Rattle.cff.specs.Find.{locals_words, read_as, name_as, cid_as, item_refusal_lem, item_of}
use Rattle.opentype.specs.OpentypeLaws.{file_long}
use Rattle.cff.specs.SetLaws.{font_other}
use Rattle.cff.specs.FileLaws.{bare}
use Rattle.cff.specs.Examples.{sheet}
use Rattle.cff.specs.declared.ItemKind.TheVariants.{Charstring, Global, Text}
use Rattle.opentype.specs.declared.TableAt.{TableAt}
use Rattle.refusal.specs.declared.Refusal.{Refusal}
use Rattle.refusal.specs.declared.Refusal.TheVariants.{Malformed, Unsupported, TooLong, Real, NoSuchNumber}

-- ---- 2: malformed

-- the first offset of the charstrings is 0
abbrev offset0 : List ℕ
offset0 =
    0x01 ∷ 0x00 ∷ 0x04 ∷ 0x01 ∷ 0x00 ∷ 0x01 ∷ 0x01 ∷ 0x01 ∷ 0x02 ∷ 0x58 ∷ 0x00 ∷ 0x01 ∷ 0x01 ∷ 0x01 ∷ 0x03 ∷ 0xa0 ∷ 0x11 ∷ 0x00 ∷ 0x00 ∷ 0x00 ∷ 0x00 ∷ 0x00 ∷ 0x02 ∷ 0x01
    ∷ 0x00 ∷ 0x02 ∷ 0x03 ∷ 0x0e ∷ 0x0e ∷ []

offset_0 : read_as (read_font offset0) ≡ Err Malformed
unfolding
    read_font read_table place_of set_at fonts_at font_at name_parts private_at ids_at charset_at ids_from coding_at encoding_got read_index told index_at table_at data_at run_of judged offsets pieces items_of num_at
    be dict_of gathered readings_at readings_from entry_at entry_from token_at operator_at number_at real_at nibbles text_of exp_digits exponent mantissa form_of value_of normal
    zeros zeros_of stripped last_of last_from trunc_of list_of locals_words
offset_0 = refl

-- a top DICT without CharStrings
abbrev no_charstrings : List ℕ
no_charstrings =
    0x01 ∷ 0x00 ∷ 0x04 ∷ 0x01 ∷ 0x00 ∷ 0x01 ∷ 0x01 ∷ 0x01 ∷ 0x02 ∷ 0x58 ∷ 0x00 ∷ 0x01 ∷ 0x01 ∷ 0x01 ∷ 0x01 ∷ 0x00 ∷ 0x00 ∷ 0x00 ∷ 0x00 ∷ []

no-charstrings : read_as (read_font no_charstrings) ≡ Err Malformed
unfolding
    read_font read_table place_of set_at fonts_at font_at name_parts private_at ids_at charset_at ids_from coding_at encoding_got read_index told index_at table_at data_at run_of judged offsets pieces items_of num_at
    be dict_of gathered readings_at readings_from entry_at entry_from token_at operator_at number_at real_at nibbles text_of exp_digits exponent mantissa form_of value_of normal
    zeros zeros_of stripped last_of last_from trunc_of list_of locals_words
no-charstrings = refl

-- ---- 4: above 67,108,864 bytes, and not at it

too_long : (b : List ℕ) → 67108864 < length b → read_as (read_font b) ≡ Err TooLong
unfolding read_font
too_long b h = ap (λ (x : Result TableAt Refusal). read_as (read_at b x)) (sym (file_long b h))

longest : (rest : List ℕ) → length (2 ∷ 0 ∷ 4 ∷ 1 ∷ rest) ≡ 67108864 → read_as (read_font (2 ∷ 0 ∷ 4 ∷ 1 ∷ rest)) ≡ Err Unsupported
unfolding num_at be
longest rest h =
    let b : List ℕ = 2 ∷ 0 ∷ 4 ∷ 1 ∷ rest in
    ap read_as (bare b (omega (arith, h)) (λ e. omega (arith, e)) ∙ font_other b (omega (arith, h)) 2 refl (λ e. absurd (omega (arith, e))))

-- ---- 5: a real of 16 digits; one of 15 is read

abbrev digits16 : List ℕ
digits16 =
    0x01 ∷ 0x00 ∷ 0x04 ∷ 0x01 ∷ 0x00 ∷ 0x01 ∷ 0x01 ∷ 0x01 ∷ 0x02 ∷ 0x58 ∷ 0x00 ∷ 0x01 ∷ 0x01 ∷ 0x01 ∷ 0x0e ∷ 0x1e ∷ 0x12 ∷ 0x34 ∷ 0x56 ∷ 0x78 ∷ 0x90 ∷ 0x12 ∷ 0x34 ∷ 0x56
    ∷ 0xff ∷ 0x0d ∷ 0xab ∷ 0x11 ∷ 0x00 ∷ 0x00 ∷ 0x00 ∷ 0x00 ∷ 0x00 ∷ 0x01 ∷ 0x01 ∷ 0x01 ∷ 0x02 ∷ 0x0e ∷ []

digits_16 : read_as (read_font digits16) ≡ Err Real
unfolding
    read_font read_table place_of set_at fonts_at font_at name_parts private_at ids_at charset_at ids_from coding_at encoding_got read_index told index_at table_at data_at run_of judged offsets pieces items_of num_at
    be dict_of gathered readings_at readings_from entry_at entry_from token_at operator_at number_at real_at nibbles text_of exp_digits exponent mantissa form_of value_of normal
    zeros zeros_of stripped last_of last_from trunc_of list_of locals_words
digits_16 = refl

abbrev digits15 : List ℕ
digits15 =
    0x01 ∷ 0x00 ∷ 0x04 ∷ 0x01 ∷ 0x00 ∷ 0x01 ∷ 0x01 ∷ 0x01 ∷ 0x02 ∷ 0x58 ∷ 0x00 ∷ 0x01 ∷ 0x01 ∷ 0x01 ∷ 0x0d ∷ 0x1e ∷ 0x12 ∷ 0x34 ∷ 0x56 ∷ 0x78 ∷ 0x90 ∷ 0x12 ∷ 0x34 ∷ 0x5f
    ∷ 0x0d ∷ 0xaa ∷ 0x11 ∷ 0x00 ∷ 0x00 ∷ 0x00 ∷ 0x00 ∷ 0x00 ∷ 0x01 ∷ 0x01 ∷ 0x01 ∷ 0x02 ∷ 0x0e ∷ []

digits_15 : read_as (read_font digits15) ≡ Ok (record { glyphs = 1; globals = 0; strings = 0; cid = false; work = 2 })
unfolding
    read_font read_table place_of set_at fonts_at font_at name_parts private_at ids_at charset_at ids_from coding_at encoding_got read_index told index_at table_at data_at run_of judged offsets pieces items_of num_at
    be dict_of gathered readings_at readings_from entry_at entry_from token_at operator_at number_at real_at nibbles text_of exp_digits exponent mantissa form_of value_of normal
    zeros zeros_of stripped last_of last_from trunc_of list_of locals_words
digits_15 = refl

-- ---- 6: an item that is not there; the part is empty

no_glyph_2 : item_refusal_lem (read_font sheet) Charstring 2 ≡ Err NoSuchNumber
unfolding
    read_font read_table place_of set_at fonts_at font_at name_parts private_at ids_at charset_at ids_from coding_at encoding_got read_index told index_at table_at data_at run_of judged offsets pieces items_of num_at
    be dict_of gathered readings_at readings_from entry_at entry_from token_at operator_at number_at real_at nibbles text_of exp_digits exponent mantissa form_of value_of normal
    zeros zeros_of stripped last_of last_from trunc_of list_of locals_words
no_glyph_2 = refl

no_global_0 : item_refusal_lem (read_font sheet) Global 0 ≡ Err NoSuchNumber
unfolding
    read_font read_table place_of set_at fonts_at font_at name_parts private_at ids_at charset_at ids_from coding_at encoding_got read_index told index_at table_at data_at run_of judged offsets pieces items_of num_at
    be dict_of gathered readings_at readings_from entry_at entry_from token_at operator_at number_at real_at nibbles text_of exp_digits exponent mantissa form_of value_of normal
    zeros zeros_of stripped last_of last_from trunc_of list_of locals_words
no_global_0 = refl

no_string_0 : item_refusal_lem (read_font sheet) Text 0 ≡ Err NoSuchNumber
unfolding
    read_font read_table place_of set_at fonts_at font_at name_parts private_at ids_at charset_at ids_from coding_at encoding_got read_index told index_at table_at data_at run_of judged offsets pieces items_of num_at
    be dict_of gathered readings_at readings_from entry_at entry_from token_at operator_at number_at real_at nibbles text_of exp_digits exponent mantissa form_of value_of normal
    zeros zeros_of stripped last_of last_from trunc_of list_of locals_words
no_string_0 = refl

glyph_1_there : item_refusal_lem (read_font sheet) Charstring 1 ≡ Ok tt
unfolding
    read_font read_table place_of set_at fonts_at font_at name_parts private_at ids_at charset_at ids_from coding_at encoding_got read_index told index_at table_at data_at run_of judged offsets pieces items_of num_at
    be dict_of gathered readings_at readings_from entry_at entry_from token_at operator_at number_at real_at nibbles text_of exp_digits exponent mantissa form_of value_of normal
    zeros zeros_of stripped last_of last_from trunc_of list_of locals_words
glyph_1_there = refl

nothing-of_glyph_2 : item_of (read_font sheet) Charstring 2 ≡ []
unfolding
    read_font read_table place_of set_at fonts_at font_at name_parts private_at ids_at charset_at ids_from coding_at encoding_got read_index told index_at table_at data_at run_of judged offsets pieces items_of num_at
    be dict_of gathered readings_at readings_from entry_at entry_from token_at operator_at number_at real_at nibbles text_of exp_digits exponent mantissa form_of value_of normal
    zeros zeros_of stripped last_of last_from trunc_of list_of locals_words
nothing-of_glyph_2 = refl

-- ---- a set

-- two fonts, of one glyph and of two: the first is used
abbrev two_fonts : List ℕ
two_fonts =
    0x01 ∷ 0x00 ∷ 0x04 ∷ 0x01 ∷ 0x00 ∷ 0x02 ∷ 0x01 ∷ 0x01 ∷ 0x02 ∷ 0x03 ∷ 0x58 ∷ 0x59 ∷ 0x00 ∷ 0x02 ∷ 0x01 ∷ 0x01 ∷ 0x03 ∷ 0x05 ∷ 0xa5 ∷ 0x11 ∷ 0xab ∷ 0x11 ∷ 0x00 ∷ 0x00
    ∷ 0x00 ∷ 0x00 ∷ 0x00 ∷ 0x01 ∷ 0x01 ∷ 0x01 ∷ 0x02 ∷ 0x0e ∷ 0x00 ∷ 0x02 ∷ 0x01 ∷ 0x01 ∷ 0x02 ∷ 0x03 ∷ 0x0e ∷ 0x0e ∷ []

two-fonts : read_as (read_font two_fonts) ≡ Ok (record { glyphs = 1; globals = 0; strings = 0; cid = false; work = 2 })
unfolding
    read_font read_table place_of set_at fonts_at font_at name_parts private_at ids_at charset_at ids_from coding_at encoding_got read_index told index_at table_at data_at run_of judged offsets pieces items_of num_at
    be dict_of gathered readings_at readings_from entry_at entry_from token_at operator_at number_at real_at nibbles text_of exp_digits exponent mantissa form_of value_of normal
    zeros zeros_of stripped last_of last_from trunc_of list_of locals_words
two-fonts = refl

-- and every font is read: the second has no CharStrings
abbrev second_bad : List ℕ
second_bad =
    0x01 ∷ 0x00 ∷ 0x04 ∷ 0x01 ∷ 0x00 ∷ 0x02 ∷ 0x01 ∷ 0x01 ∷ 0x02 ∷ 0x03 ∷ 0x58 ∷ 0x59 ∷ 0x00 ∷ 0x02 ∷ 0x01 ∷ 0x01 ∷ 0x03 ∷ 0x05 ∷ 0xa5 ∷ 0x11 ∷ 0x8b ∷ 0x0f ∷ 0x00 ∷ 0x00
    ∷ 0x00 ∷ 0x00 ∷ 0x00 ∷ 0x01 ∷ 0x01 ∷ 0x01 ∷ 0x02 ∷ 0x0e ∷ 0x00 ∷ 0x02 ∷ 0x01 ∷ 0x01 ∷ 0x02 ∷ 0x03 ∷ 0x0e ∷ 0x0e ∷ []

second-bad : read_as (read_font second_bad) ≡ Err Malformed
unfolding
    read_font read_table place_of set_at fonts_at font_at name_parts private_at ids_at charset_at ids_from coding_at encoding_got read_index told index_at table_at data_at run_of judged offsets pieces items_of num_at
    be dict_of gathered readings_at readings_from entry_at entry_from token_at operator_at number_at real_at nibbles text_of exp_digits exponent mantissa form_of value_of normal
    zeros zeros_of stripped last_of last_from trunc_of list_of locals_words
second-bad = refl

-- one name and two top DICTs
abbrev unequal_counts : List ℕ
unequal_counts =
    0x01 ∷ 0x00 ∷ 0x04 ∷ 0x01 ∷ 0x00 ∷ 0x01 ∷ 0x01 ∷ 0x01 ∷ 0x02 ∷ 0x58 ∷ 0x00 ∷ 0x02 ∷ 0x01 ∷ 0x01 ∷ 0x03 ∷ 0x05 ∷ 0xa3 ∷ 0x11 ∷ 0xa3 ∷ 0x11 ∷ 0x00 ∷ 0x00 ∷ 0x00 ∷ 0x00
    ∷ 0x00 ∷ 0x01 ∷ 0x01 ∷ 0x01 ∷ 0x02 ∷ 0x0e ∷ []

unequal-counts : read_as (read_font unequal_counts) ≡ Err Malformed
unfolding
    read_font read_table place_of set_at fonts_at font_at name_parts private_at ids_at charset_at ids_from coding_at encoding_got read_index told index_at table_at data_at run_of judged offsets pieces items_of num_at
    be dict_of gathered readings_at readings_from entry_at entry_from token_at operator_at number_at real_at nibbles text_of exp_digits exponent mantissa form_of value_of normal
    zeros zeros_of stripped last_of last_from trunc_of list_of locals_words
unequal-counts = refl

-- ---- finding gives the first

-- glyphs 1 and 2 have the string id 1, space
abbrev repeated_name : List ℕ
repeated_name =
    0x01 ∷ 0x00 ∷ 0x04 ∷ 0x01 ∷ 0x00 ∷ 0x01 ∷ 0x01 ∷ 0x01 ∷ 0x02 ∷ 0x58 ∷ 0x00 ∷ 0x01 ∷ 0x01 ∷ 0x01 ∷ 0x05 ∷ 0xa2 ∷ 0x0f ∷ 0xa7 ∷ 0x11 ∷ 0x00 ∷ 0x00 ∷ 0x00 ∷ 0x00 ∷ 0x00
    ∷ 0x00 ∷ 0x01 ∷ 0x00 ∷ 0x01 ∷ 0x00 ∷ 0x03 ∷ 0x01 ∷ 0x01 ∷ 0x02 ∷ 0x03 ∷ 0x04 ∷ 0x0e ∷ 0x0e ∷ 0x0e ∷ []

first-of_a_name : name_as (read_font repeated_name) (0x73 ∷ 0x70 ∷ 0x61 ∷ 0x63 ∷ 0x65 ∷ []) ≡ Ok (Some 1)
unfolding
    read_font read_table place_of set_at fonts_at font_at name_parts private_at ids_at charset_at ids_from coding_at encoding_got read_index told index_at table_at data_at run_of judged offsets pieces items_of num_at
    be dict_of gathered readings_at readings_from entry_at entry_from token_at operator_at number_at real_at nibbles text_of exp_digits exponent mantissa form_of value_of normal
    zeros zeros_of stripped last_of last_from trunc_of list_of locals_words glyph_with_text string_text standard_string standard_strings standard_names codes
    same_text_lem
first-of_a_name = refl

-- glyph 1 has the string id 391, above the font's strings: the empty name
abbrev empty_name_lem : List ℕ
empty_name_lem =
    0x01 ∷ 0x00 ∷ 0x04 ∷ 0x01 ∷ 0x00 ∷ 0x01 ∷ 0x01 ∷ 0x01 ∷ 0x02 ∷ 0x58 ∷ 0x00 ∷ 0x01 ∷ 0x01 ∷ 0x01 ∷ 0x05 ∷ 0xa2 ∷ 0x0f ∷ 0xa5 ∷ 0x11 ∷ 0x00 ∷ 0x00 ∷ 0x00 ∷ 0x00 ∷ 0x00
    ∷ 0x01 ∷ 0x87 ∷ 0x00 ∷ 0x02 ∷ 0x01 ∷ 0x01 ∷ 0x02 ∷ 0x03 ∷ 0x0e ∷ 0x0e ∷ []

empty_name : name_as (read_font empty_name_lem) [] ≡ Ok (Some 1)
unfolding
    read_font read_table place_of set_at fonts_at font_at name_parts private_at ids_at charset_at ids_from coding_at encoding_got read_index told index_at table_at data_at run_of judged offsets pieces items_of num_at
    be dict_of gathered readings_at readings_from entry_at entry_from token_at operator_at number_at real_at nibbles text_of exp_digits exponent mantissa form_of value_of normal
    zeros zeros_of stripped last_of last_from trunc_of list_of locals_words glyph_with_text string_text standard_string standard_strings standard_names codes
    same_text_lem
empty_name = refl

-- glyphs 1 and 2 have CID 5
abbrev repeated_cid : List ℕ
repeated_cid =
    0x01 ∷ 0x00 ∷ 0x04 ∷ 0x01 ∷ 0x00 ∷ 0x01 ∷ 0x01 ∷ 0x01 ∷ 0x02 ∷ 0x58 ∷ 0x00 ∷ 0x01 ∷ 0x01 ∷ 0x01 ∷ 0x10 ∷ 0x8b ∷ 0x8b ∷ 0x8b ∷ 0x0c ∷ 0x1e ∷ 0xad ∷ 0x0f ∷ 0xb6 ∷ 0x11
    ∷ 0xc0 ∷ 0x0c ∷ 0x24 ∷ 0xb2 ∷ 0x0c ∷ 0x25 ∷ 0x00 ∷ 0x00 ∷ 0x00 ∷ 0x00 ∷ 0x00 ∷ 0x00 ∷ 0x05 ∷ 0x00 ∷ 0x05 ∷ 0x00 ∷ 0x00 ∷ 0x00 ∷ 0x00 ∷ 0x00 ∷ 0x03 ∷ 0x01 ∷ 0x01 ∷ 0x02
    ∷ 0x03 ∷ 0x04 ∷ 0x0e ∷ 0x0e ∷ 0x0e ∷ 0x00 ∷ 0x01 ∷ 0x01 ∷ 0x01 ∷ 0x04 ∷ 0x8d ∷ 0xc8 ∷ 0x12 ∷ 0x8d ∷ 0x13 ∷ 0x00 ∷ 0x01 ∷ 0x01 ∷ 0x01 ∷ 0x02 ∷ 0x0b ∷ []

first-of_a_cid : cid_as (read_font repeated_cid) 5 ≡ Ok (Some 1)
unfolding
    read_font read_table place_of set_at fonts_at font_at cid_parts privates_at private_at private_data locals_at fds_at fd_select_at all_below ids_at charset_at ids_from read_index told index_at table_at
    data_at run_of judged offsets pieces items_of num_at be dict_of gathered readings_at readings_from entry_at entry_from token_at operator_at number_at real_at normal zeros
    zeros_of stripped last_of last_from trunc_of list_of locals_words glyph_with_id
first-of_a_cid = refl

-- ---- an FD past the FD array: 1, of one FD

abbrev fd_past : List ℕ
fd_past =
    0x01 ∷ 0x00 ∷ 0x04 ∷ 0x01 ∷ 0x00 ∷ 0x01 ∷ 0x01 ∷ 0x01 ∷ 0x02 ∷ 0x58 ∷ 0x00 ∷ 0x01 ∷ 0x01 ∷ 0x01 ∷ 0x10 ∷ 0x8b ∷ 0x8b ∷ 0x8b ∷ 0x0c ∷ 0x1e ∷ 0xad ∷ 0x0f ∷ 0xb3 ∷ 0x11
    ∷ 0xbb ∷ 0x0c ∷ 0x24 ∷ 0xb0 ∷ 0x0c ∷ 0x25 ∷ 0x00 ∷ 0x00 ∷ 0x00 ∷ 0x00 ∷ 0x00 ∷ 0x00 ∷ 0x05 ∷ 0x00 ∷ 0x00 ∷ 0x01 ∷ 0x00 ∷ 0x02 ∷ 0x01 ∷ 0x01 ∷ 0x02 ∷ 0x03 ∷ 0x0e ∷ 0x0e
    ∷ 0x00 ∷ 0x01 ∷ 0x01 ∷ 0x01 ∷ 0x04 ∷ 0x8d ∷ 0xc3 ∷ 0x12 ∷ 0x8d ∷ 0x13 ∷ 0x00 ∷ 0x01 ∷ 0x01 ∷ 0x01 ∷ 0x02 ∷ 0x0b ∷ []

fd-past : read_as (read_font fd_past) ≡ Err Malformed
unfolding
    read_font read_table place_of set_at fonts_at font_at cid_parts privates_at private_at private_data locals_at fds_at fd_select_at all_below ids_at charset_at ids_from read_index told index_at table_at
    data_at run_of judged offsets pieces items_of num_at be dict_of gathered readings_at readings_from entry_at entry_from token_at operator_at number_at real_at normal zeros
    zeros_of stripped last_of last_from trunc_of list_of locals_words glyph_with_id
fd-past = refl
