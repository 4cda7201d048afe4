-- Worked examples, computed.
use Rattle.std.specs.Prelude.{◌≡◌, refl, [], ◌∷◌, None, Some}
use Rattle.strings.specs.Table.{standard_names}
use Rattle.strings.specs.Text.{codes, same_text_lem}
use Rattle.strings.specs.Strings.{standard_strings, standard_string, string_text, sid_in, sid_of}

id_0 : standard_string 0 ≡ codes ".notdef"
unfolding standard_names codes standard_strings standard_string
id_0 = refl

id_1 : standard_string 1 ≡ codes "space"
unfolding standard_names codes standard_strings standard_string
id_1 = refl

id_34 : standard_string 34 ≡ 0x41 ∷ []
unfolding standard_names codes standard_strings standard_string
id_34 = refl

id_390 : standard_string 390 ≡ codes "Semibold"
unfolding standard_names codes standard_strings standard_string
id_390 = refl

sid_of_A : sid_of (0x41 ∷ []) ≡ Some 34
unfolding standard_names codes standard_strings same_text_lem sid_in sid_of
sid_of_A = refl

sid_of-last : sid_of (codes "Semibold") ≡ Some 390
unfolding standard_names codes standard_strings same_text_lem sid_in sid_of
sid_of-last = refl

sid_of_unknown : sid_of (codes "Semibol") ≡ None
unfolding standard_names codes standard_strings same_text_lem sid_in sid_of
sid_of_unknown = refl

sid_of-empty : sid_of [] ≡ None
unfolding standard_names codes standard_strings same_text_lem sid_in sid_of
sid_of-empty = refl

-- the first own string, and the empty string above the last
text_391 : string_text ((7 ∷ 8 ∷ []) ∷ []) 391 ≡ 7 ∷ 8 ∷ []
unfolding string_text
text_391 = refl

text_392 : string_text ((7 ∷ 8 ∷ []) ∷ []) 392 ≡ []
unfolding string_text
text_392 = refl

text_34 : string_text ((7 ∷ 8 ∷ []) ∷ []) 34 ≡ 0x41 ∷ []
unfolding standard_names codes standard_strings standard_string string_text
text_34 = refl
