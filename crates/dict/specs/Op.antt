-- The operators of a DICT (TN5176, section 4, and tables 9, 10 and 23), numbered as the Rust does: a one-byte operator by its byte, the escape
-- `12 e` by 3072 + e.
use Rattle.std.specs.Prelude.{ℕ, ◌+◌, Bool, true, false, List, [], ◌∷◌, ltb, eqb}
use Rattle.octets.specs.Pick.{pick}

-- the escape `12 e`
abbrev pub esc : ℕ → ℕ
esc e = 3072 + e

-- an operator: 0 to 21 except 12, or an escape
abbrev pub is_operator : ℕ → Bool
is_operator op = pick (eqb op 12) false (pick (ltb op 22) true (pick (ltb op 3072) false (ltb op 3328)))

-- Private, Subrs, PaintType, FontMatrix, CharstringType, ROS, CIDCount
abbrev pub private : ℕ
private = 18

abbrev pub subrs : ℕ
subrs = 19

abbrev pub paint_type : ℕ
paint_type = esc 5

abbrev pub font_matrix : ℕ
font_matrix = esc 7

abbrev pub charstring_type : ℕ
charstring_type = esc 6

abbrev pub ros : ℕ
ros = esc 30

abbrev pub cid_count : ℕ
cid_count = esc 34

-- what a subset copies from the top DICT, in this order: FontBBox, isFixedPitch, ItalicAngle, UnderlinePosition, UnderlineThickness,
-- FontMatrix
abbrev pub copied_top_entries : List ℕ
copied_top_entries = 5 ∷ esc 1 ∷ esc 2 ∷ esc 3 ∷ esc 4 ∷ esc 7 ∷ []

-- the entries of the top DICT that hold a string id: version, Notice, Copyright, FullName, FamilyName, Weight
abbrev pub copied_top_strings : List ℕ
copied_top_strings = 0 ∷ 1 ∷ esc 0 ∷ 2 ∷ 3 ∷ 4 ∷ []
