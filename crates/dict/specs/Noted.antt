-- Where the last entries that reading asks for stand (TN5176, section 4: those of the top DICT, of a Font DICT and of a Private DICT), or those that
-- subsetting asks for, noted in one pass over a DICT: a table has a slot for each of their operators.
use Rattle.std.specs.Prelude.{ℕ, suc, ◌<◌, ◌≡◌, Bool, true, false, List, [], ◌∷◌, eqb, length, get_or, Option, None, Some}
use Rattle.octets.specs.Pick.{pick}
use Rattle.dict.specs.Op.{esc, private, subrs, paint_type, font_matrix, charstring_type, ros, cid_count}
use Rattle.dict.specs.Places.{place_of}
use Rattle.dict.specs.declared.OperandsAt.{OperandsAt}
use Rattle.dict.specs.declared.Places.{Places}

-- reading asks for charset, Encoding, CharStrings, Private, Subrs, CharstringType, ROS, FDArray, FDSelect
abbrev pub asked_by_reading : List ℕ
asked_by_reading = 15 ∷ 16 ∷ 17 ∷ private ∷ subrs ∷ charstring_type ∷ ros ∷ esc 36 ∷ esc 37 ∷ []

-- subsetting asks for the entries of a top DICT that are copied, those that hold a string id, ROS, CIDCount and PaintType
abbrev pub asked_by_subsetting : List ℕ
asked_by_subsetting = 5 ∷ esc 1 ∷ esc 2 ∷ esc 3 ∷ esc 4 ∷ font_matrix ∷ 0 ∷ 1 ∷ esc 0 ∷ 2 ∷ 3 ∷ 4 ∷ ros ∷ cid_count ∷ paint_type ∷ []

-- the operators of a table
unfoldable pub asked : Bool → List ℕ
asked false = asked_by_reading
asked true = asked_by_subsetting

-- the first place of an operator in a list; past all where it is not there
unfoldable pub slot_of : List ℕ → ℕ → ℕ
slot_of [] op = 0
slot_of (x ∷ xs) op = pick (eqb x op) 0 (suc (slot_of xs op))

-- each slot of a table has its operator's last entry
pub record Notes (t : Bool) (b : List ℕ) (last : List (Option OperandsAt)) : Type 0 where
  pub each : (op : ℕ) → slot_of (asked t) op < length (asked t) → get_or last (slot_of (asked t) op) None ≡ place_of op b

-- the entries stand where it was noted, if it was
pub record Placed (b : List ℕ) (noted : Option Places) : Type 0 where
  pub notes : (p : Places) → noted ≡ Some p → Notes p.subsetting b p.last
