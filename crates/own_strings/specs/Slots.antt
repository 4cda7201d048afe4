-- The string ids that the top DICT of a subset uses (document 01, 'Layout'): eight slots, registry and ordering of ROS and then the six
-- string entries, each with a string id of the font or none. And what the code gives and counts as it passes over string ids.
use Rattle.std.specs.Prelude.{ℕ, ◌+◌, ◌/◌, ◌<◌, ◌≡◌, Bool, false, List, [], ◌∷◌, ◌++◌, ltb, eqb, length, take, get_or, map, position, None, Option, Some}
use Rattle.octets.specs.Pick.{pick}
use Rattle.dict.specs.Op.{copied_top_strings}
use Rattle.dict.specs.Dict.{Entry}
use Rattle.dict.specs.Lookup.{id_in, ros_in}
use Rattle.dict.specs.declared.RosEntry.{RosEntry}
use Rattle.index.specs.Write.{total}
use Rattle.strings.specs.Text.{same_text_lem}
use Rattle.strings.specs.Strings.{string_text, sid_of}
use Rattle.subset.specs.Texts.{has_text, own_strings_lem, new_id}
use Rattle.own_strings.specs.declared.Own.{Own}
use Rattle.own_strings.specs.declared.slots.Slot.{Slot}

-- ---- slots

-- the string ids of slots, and their new ids
abbrev pub sids_of : List Slot → List (Option ℕ)
sids_of slots = map (λ (s : Slot). s.sid) slots

abbrev pub ids_of : List Slot → List ℕ
ids_of slots = map (λ (s : Slot). s.id) slots

-- a slot of no string
abbrev pub no_slot : Slot
no_slot = record { sid = None; id = 0 }

-- the string ids of registry and ordering
abbrev pub ros_slots : Option RosEntry → List (Option ℕ)
ros_slots None = None ∷ None ∷ []
ros_slots (Some q) = Some q.registry ∷ Some q.ordering ∷ []

-- those of the entries of these operators
unfoldable pub entry_slots : List Entry → List ℕ → List (Option ℕ)
entry_slots es [] = []
entry_slots es (op ∷ ops) = id_in op es ∷ entry_slots es ops

-- those of the first two slots: none in a name-keyed font
abbrev pub first_slots : Bool → List Entry → List (Option ℕ)
first_slots cid es = pick cid (ros_slots (ros_in es)) (None ∷ None ∷ [])

-- those of the eight slots of a top DICT, by the keying of its font
unfoldable pub slots_of : Bool → List Entry → List (Option ℕ)
slots_of cid es = first_slots cid es ++ entry_slots es copied_top_strings

-- the texts of those that are there
unfoldable pub slot_texts : List (List ℕ) → List (Option ℕ) → List (List ℕ)
slot_texts strings [] = []
slot_texts strings (None ∷ xs) = slot_texts strings xs
slot_texts strings (Some x ∷ xs) = string_text strings x ∷ slot_texts strings xs

-- the new id of a slot, the own strings of the subset being given: 0 where it has no string
unfoldable pub slot_id : List (List ℕ) → List (List ℕ) → Option ℕ → ℕ
slot_id own strings None = 0
slot_id own strings (Some x) = new_id own (string_text strings x)

-- and of slots
unfoldable pub slot_ids : List (List ℕ) → List (List ℕ) → List (Option ℕ) → List ℕ
slot_ids own strings [] = []
slot_ids own strings (x ∷ xs) = slot_id own strings x ∷ slot_ids own strings xs

-- ---- glyph names

-- the names of glyphs by words that hold a string id times 65536 and a glyph
unfoldable pub word_names : List (List ℕ) → List ℕ → List (List ℕ)
word_names strings [] = []
word_names strings (w ∷ ws) = string_text strings (w / 65536) ∷ word_names strings ws

-- their string ids, as those of slots
unfoldable pub word_ids : List ℕ → List (Option ℕ)
word_ids [] = []
word_ids (w ∷ ws) = Some (w / 65536) ∷ word_ids ws

-- no text stands before among them
pub record Different (ts : List (List ℕ)) : Type 0 where
  pub apart : (i : ℕ) → i < length ts → has_text (get_or ts i []) (take i ts) ≡ false

-- ---- own strings

-- how many own strings, and their bytes together
abbrev pub own_of : List (List ℕ) → Own
own_of own = record { count = length own; total = total own }

-- the own strings of slots
abbrev pub slots_own : List (List ℕ) → List Slot → List (List ℕ)
slots_own strings slots = own_strings_lem [] (slot_texts strings (sids_of slots))

-- and with the names of glyphs behind them
abbrev pub all_own : List (List ℕ) → List Slot → List ℕ → List (List ℕ)
all_own strings slots ws = own_strings_lem (slots_own strings slots) (word_names strings ws)

-- ---- what the code finds for one string id

-- whether a slot has a text
abbrev pub slot_has : List (List ℕ) → List ℕ → Option ℕ → Bool
slot_has strings t None = false
slot_has strings t (Some x) = same_text_lem (string_text strings x) t

-- the first of the slots that has a text, if one has
abbrev pub slot_with : List (List ℕ) → List ℕ → List (Option ℕ) → Option ℕ
slot_with strings t slots = position (slot_has strings t) slots

-- the id of a text: its standard one, or else another
abbrev pub standard_or : Option ℕ → ℕ → ℕ
standard_or (Some k) id = k
standard_or None id = id

-- the id of the slot that has the text, or the next id
abbrev pub given_or : List ℕ → ℕ → Option ℕ → ℕ
given_or ids count (Some j) = get_or ids j 0
given_or ids count None = 391 + count

-- the new id of a slot's string id, after these slots with their ids and count own strings: 0 where it has none
unfoldable pub given_id : List (List ℕ) → List (Option ℕ) → List ℕ → ℕ → Option ℕ → ℕ
given_id strings slots ids count None = 0
given_id strings slots ids count (Some x) =
    pick (ltb x 391) x
    (standard_or (sid_of (string_text strings x)) (given_or ids count (slot_with strings (string_text strings x) slots)))

-- the own strings counted, once a string id with a new id was passed: one more where the id is the next
unfoldable pub counted : List (List ℕ) → Own → ℕ → ℕ → Own
counted strings own x id =
    pick (ltb x 391) own
    (pick (eqb id (391 + own.count)) (record { count = own.count + 1; total = own.total + length (string_text strings x) }) own)
