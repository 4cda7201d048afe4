-- Worked examples (document 02, Wish 4), computed: a font of four glyphs, `.notdef`, `space`, `exclam` and one whose own string is `A`.
use Rattle.std.specs.Prelude.{ℕ, ◌≡◌, refl, List, [], ◌∷◌, Some}
use Rattle.octets.specs.Octets.{be, num_at, bytes_of}
use Rattle.octets.specs.Lists.{joined}
use Rattle.index.specs.Write.{total, size_for, ends, table_bytes, head_bytes, items_bytes, index_bytes}
use Rattle.decimal.specs.Written.{int5_bytes}
use Rattle.dict.specs.Lookup.{last_from, last_of}
use Rattle.dict_write.specs.Written.{copied_entry, op_bytes_lem, entries_bytes, offset_entry, private_entry, without}
use Rattle.charset.specs.CharsetBytes.{id_bytes, charset_bytes}
use Rattle.strings.specs.Text.{codes, same_text_lem}
use Rattle.strings.specs.Table.{standard_names}
use Rattle.strings.specs.Strings.{standard_strings, standard_string, string_text, sid_in, sid_of}
use Rattle.charset.specs.Codes.{by_number, by_string}
use Rattle.charset.specs.Predefined.{standard_encoding}
use Rattle.find.specs.Find.{glyph_with_text}
use Rattle.cff.specs.Font.{standard, expert, custom, Program, empty_private}
use Rattle.subset.specs.Kept.{is_in}
use Rattle.subset.specs.Texts.{has_text, own_strings_lem, place_in, new_id, named_entries, texts_of, names_of}
use Rattle.subset.specs.Pruned.{Bodies}
use Rattle.subset.specs.Codes.{last_named, glyph_of, pairs_from, coded_by_lem, pairs, pair_bytes, coded_bytes}
use Rattle.subset.specs.Subset.{named_bytes, copied_bytes, new_ids, subset_by_name}

abbrev font : Program
font =
    record {
      top = [];
      strings = (0x41 ∷ []) ∷ [];
      globals = [];
      charstrings = [] ∷ [] ∷ [] ∷ [] ∷ [];
      ids = 0 ∷ 1 ∷ 2 ∷ 391 ∷ [];
      privates = empty_private ∷ [];
      fds = 0 ∷ 0 ∷ 0 ∷ 0 ∷ [];
      dicts = [];
      coding = standard;
    }

-- the last glyph counts; a number past the font and a string that no glyph has are passed over
last_counts : glyph_of font (custom (by_number 65 1 ∷ by_number 65 2 ∷ by_number 65 4 ∷ by_string 65 3 ∷ [])) 65 ≡ Some 2
unfolding last_named glyph_of glyph_with_text string_text standard_string standard_strings standard_names same_text_lem codes
last_counts = refl

-- string id 34, the standard `A`, names the glyph whose own string is `A`
by-text : glyph_of font (custom (by_number 65 1 ∷ by_string 65 34 ∷ [])) 65 ≡ Some 3
unfolding last_named glyph_of glyph_with_text string_text standard_string standard_strings standard_names same_text_lem codes
by-text = refl

-- so does code 65 of the Standard Encoding
by-standard : glyph_of font standard 65 ≡ Some 3
unfolding last_named glyph_of standard_encoding glyph_with_text string_text standard_string standard_strings standard_names same_text_lem codes
by-standard = refl

-- an unassigned code of a predefined table is `.notdef`, which names glyph 0
by_notdef : glyph_of font standard 0 ≡ Some 0
unfolding last_named glyph_of standard_encoding glyph_with_text string_text standard_string standard_strings standard_names same_text_lem codes
by_notdef = refl

-- the last glyph of a code is taken first and then asked whether it is kept: code 65 has no pair though glyph 1 is kept; code 66 has glyph 1's id
last_not_kept : coded_by_lem font (0 ∷ 1 ∷ []) [] (custom (by_number 65 1 ∷ by_number 65 2 ∷ by_number 66 1 ∷ []))
    ≡ pairs (record { code = 66; id = 1 } ∷ [])
unfolding
    coded_by_lem pairs_from last_named is_in new_id place_in sid_of sid_in glyph_with_text string_text standard_string standard_strings standard_names same_text_lem codes
last_not_kept = refl

-- no pair: the encoding is there all the same, else the subset would have the standard one
no_pair : coded_bytes (pairs []) ≡ 0x80 ∷ 0x00 ∷ 0x00 ∷ []
unfolding pair_bytes
no_pair = refl

-- ---- whole subsets of the glyphs 0, 1 and 3 under the name N

abbrev kept : List ℕ
kept = 0 ∷ 1 ∷ 3 ∷ []

abbrev bodies : Bodies
bodies = record { globals = []; locals = [] ∷ []; charstrings = (0x0e ∷ []) ∷ (0x0e ∷ []) ∷ (0x0e ∷ []) ∷ [] }

-- code 65 names `space`, 66 `exclam` and then `A`: the encoding stands behind the charset, and its offset, 0x35, behind charset's
custom_bytes : subset_by_name font (coded_by_lem font kept [] (custom (by_number 65 1 ∷ by_number 66 2 ∷ by_string 66 34 ∷ []))) (0x4e ∷ []) kept bodies
    -- header
    ≡ 0x01 ∷ 0x00 ∷ 0x04 ∷ 0x01
    -- names
    ∷ 0x00 ∷ 0x01 ∷ 0x01 ∷ 0x01 ∷ 0x02 ∷ 0x4e
    -- top DICT: charset, Encoding, CharStrings, Private
    ∷ 0x00 ∷ 0x01 ∷ 0x01 ∷ 0x01 ∷ 0x1e ∷ 0x1d ∷ 0x00 ∷ 0x00 ∷ 0x00 ∷ 0x30 ∷ 0x0f ∷ 0x1d ∷ 0x00 ∷ 0x00 ∷ 0x00 ∷ 0x35 ∷ 0x10 ∷ 0x1d ∷ 0x00 ∷ 0x00
    ∷ 0x00 ∷ 0x3e ∷ 0x11 ∷ 0x1d ∷ 0x00 ∷ 0x00 ∷ 0x00 ∷ 0x00 ∷ 0x1d ∷ 0x00 ∷ 0x00 ∷ 0x00 ∷ 0x48 ∷ 0x12
    -- strings, global subroutines: none
    ∷ 0x00 ∷ 0x00 ∷ 0x00 ∷ 0x00
    -- charset: string ids 0 1 34
    ∷ 0x00 ∷ 0x00 ∷ 0x01 ∷ 0x00 ∷ 0x22
    -- encoding
    ∷ 0x80 ∷ 0x00 ∷ 0x02 ∷ 0x41 ∷ 0x00 ∷ 0x01 ∷ 0x42 ∷ 0x00 ∷ 0x22
    -- charstrings
    ∷ 0x00 ∷ 0x03 ∷ 0x01 ∷ 0x01 ∷ 0x02 ∷ 0x03 ∷ 0x04 ∷ 0x0e ∷ 0x0e ∷ 0x0e ∷ []
unfolding
    subset_by_name new_ids copied_bytes named_bytes names_of texts_of named_entries new_id place_in own_strings_lem has_text string_text standard_string standard_strings sid_of sid_in codes same_text_lem
    standard_names coded_by_lem pairs_from last_named is_in glyph_with_text pair_bytes charset_bytes id_bytes op_bytes_lem entries_bytes offset_entry copied_entry private_entry without last_of last_from
    int5_bytes index_bytes items_bytes head_bytes table_bytes ends size_for joined total bytes_of num_at be
custom_bytes = refl

-- the Expert Encoding: its offset is 1, and it has no bytes
expert_bytes : subset_by_name font (coded_by_lem font kept [] expert) (0x4e ∷ []) kept bodies
    -- header
    ≡ 0x01 ∷ 0x00 ∷ 0x04 ∷ 0x01
    -- names
    ∷ 0x00 ∷ 0x01 ∷ 0x01 ∷ 0x01 ∷ 0x02 ∷ 0x4e
    -- top DICT: charset, Encoding, CharStrings, Private
    ∷ 0x00 ∷ 0x01 ∷ 0x01 ∷ 0x01 ∷ 0x1e ∷ 0x1d ∷ 0x00 ∷ 0x00 ∷ 0x00 ∷ 0x30 ∷ 0x0f ∷ 0x1d ∷ 0x00 ∷ 0x00 ∷ 0x00 ∷ 0x01 ∷ 0x10 ∷ 0x1d ∷ 0x00 ∷ 0x00
    ∷ 0x00 ∷ 0x35 ∷ 0x11 ∷ 0x1d ∷ 0x00 ∷ 0x00 ∷ 0x00 ∷ 0x00 ∷ 0x1d ∷ 0x00 ∷ 0x00 ∷ 0x00 ∷ 0x3f ∷ 0x12
    -- strings, global subroutines: none
    ∷ 0x00 ∷ 0x00 ∷ 0x00 ∷ 0x00
    -- charset: string ids 0 1 34
    ∷ 0x00 ∷ 0x00 ∷ 0x01 ∷ 0x00 ∷ 0x22
    -- charstrings
    ∷ 0x00 ∷ 0x03 ∷ 0x01 ∷ 0x01 ∷ 0x02 ∷ 0x03 ∷ 0x04 ∷ 0x0e ∷ 0x0e ∷ 0x0e ∷ []
unfolding
    subset_by_name new_ids copied_bytes named_bytes names_of texts_of named_entries new_id place_in own_strings_lem has_text string_text standard_string standard_strings sid_of sid_in codes same_text_lem
    standard_names coded_by_lem charset_bytes id_bytes op_bytes_lem entries_bytes offset_entry copied_entry private_entry without last_of last_from int5_bytes index_bytes items_bytes head_bytes
    table_bytes ends size_for joined total bytes_of num_at be
expert_bytes = refl
