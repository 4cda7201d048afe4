-- The top DICT of a subset over what the code holds (document 01, 'Layout'; crates/subset, top_by_name and top_by_cid): the entries of the font's
-- top DICT, and eight slots: registry, ordering and the six string entries, each with the font's string id, where there is one, and its id in the subset.
use Rattle.std.specs.Prelude.{ℕ, ◌+◌, ◌≤◌, ◌<◌, Bool, List, [], ◌∷◌, ◌++◌, eqb, length, get_or, is_some, None, Option, Some}
use Rattle.octets.specs.Pick.{pick}
use Rattle.octets.specs.Octets.{bytes_of}
use Rattle.decimal.specs.Decimal.{normal, whole}
use Rattle.decimal.specs.Written.{number_bytes}
use Rattle.dict.specs.Op.{ros, cid_count, copied_top_entries, copied_top_strings}
use Rattle.dict.specs.Dict.{Entry}
use Rattle.dict.specs.Lookup.{ros_in, cid_count_in}
use Rattle.dict.specs.declared.RosEntry.{RosEntry}
use Rattle.dict_write.specs.Written.{op_bytes_lem, entry_bytes, offset_entry, private_entry}
use Rattle.index.specs.Write.{size_for, head_bytes}
use Rattle.cff.specs.Font.{charset, char_strings, fd_array, fd_select_lem}
use Rattle.own_strings.specs.Slots.{no_slot}
use Rattle.own_strings.specs.declared.slots.Slot.{Slot}
use Rattle.subset.specs.Codes.{encoding_entry}
use Rattle.subset.specs.Subset.{copied_bytes}

-- the new ids of eight slots have 16 bits
pub record Filled (slots : List Slot) : Type 0 where
  pub small : (j : ℕ) → j < 8 → (get_or slots j no_slot).id < 65536

-- offsets that the five-byte form holds
pub record Offsets (a b c d : ℕ) : Type 0 where
  pub first : a < 2147483648
  pub second : b < 2147483648
  pub third : c < 2147483648
  pub fourth : d < 2147483648

-- an entry of one number
abbrev pub value_entry : ℕ → ℕ → List ℕ
value_entry op n = entry_bytes op (whole n ∷ [])

-- the string entry of slot j, where there is one
unfoldable pub slot_entry : List Slot → ℕ → ℕ → List ℕ
slot_entry slots j op = pick (is_some (get_or slots j no_slot).sid) (value_entry op (get_or slots j no_slot).id) []

-- the string entries of these operators, from slot j on
unfoldable pub slot_entries : List Slot → ℕ → List ℕ → List ℕ
slot_entries slots j [] = []
slot_entries slots j (op ∷ ops) = slot_entry slots j op ++ slot_entries slots (j + 1) ops

-- the six string entries
abbrev pub string_entries : List Slot → List ℕ
string_entries slots = slot_entries slots 2 copied_top_strings

-- the new ids of registry and ordering
unfoldable pub ids_bytes : List Slot → List ℕ
ids_bytes slots = number_bytes (whole (get_or slots 0 no_slot).id) ++ number_bytes (whole (get_or slots 1 no_slot).id)

-- ROS: them and the supplement
unfoldable pub ros_of : List Slot → Option RosEntry → List ℕ
ros_of slots None = []
ros_of slots (Some q) = ids_bytes slots ++ (number_bytes (normal q.supplement.neg q.supplement.size 0 0) ++ op_bytes_lem ros)

-- what both keyings copy: the string entries and the others
unfoldable pub carried : List Entry → List Slot → List ℕ
carried es slots = string_entries slots ++ copied_bytes es copied_top_entries

-- the offsets of a name-keyed subset: charset and Encoding, which is v, CharStrings and Private
unfoldable pub code_offsets : ℕ → ℕ → List ℕ
code_offsets at₁ v = offset_entry charset at₁ ++ encoding_entry v

unfoldable pub named_offsets : ℕ → ℕ → ℕ → ℕ → ℕ → List ℕ
named_offsets at₁ v at₂ size at₃ = code_offsets at₁ v ++ (offset_entry char_strings at₂ ++ private_entry size at₃)

-- those of a CID-keyed one: charset and FDSelect, CharStrings and FDArray
unfoldable pub glyph_offsets : ℕ → ℕ → List ℕ
glyph_offsets at₁ at₂ = offset_entry charset at₁ ++ offset_entry fd_select_lem at₂

unfoldable pub cid_offsets : ℕ → ℕ → ℕ → ℕ → List ℕ
cid_offsets at₁ at₂ at₃ at₄ = glyph_offsets at₁ at₂ ++ (offset_entry char_strings at₃ ++ offset_entry fd_array at₄)

-- the top DICT of a name-keyed subset
unfoldable pub top_named : List Entry → List Slot → ℕ → ℕ → ℕ → ℕ → ℕ → List ℕ
top_named es slots at₁ v at₂ size at₃ = carried es slots ++ named_offsets at₁ v at₂ size at₃

-- that of a CID-keyed one: ROS in front, and CIDCount before the offsets
unfoldable pub cid_front : List Entry → List Slot → List ℕ
cid_front es slots = ros_of slots (ros_in es) ++ (carried es slots ++ value_entry cid_count (cid_count_in es))

unfoldable pub top_cid : List Entry → List Slot → ℕ → ℕ → ℕ → ℕ → List ℕ
top_cid es slots at₁ at₂ at₃ at₄ = cid_front es slots ++ cid_offsets at₁ at₂ at₃ at₄

-- how many bytes the Encoding's entry takes
abbrev pub encoding_len : ℕ → ℕ
encoding_len v = pick (eqb v 0) 0 6

-- the length of the top DICT, which depends on no offset but on whether the Encoding's is 0
abbrev pub top_len : Bool → ℕ → List Entry → List Slot → ℕ
top_len cid v es slots = pick cid (length (top_cid es slots 0 0 0 0)) (length (top_named es slots 0 v 0 0 0))

-- what stands before the item of an INDEX of one item of n bytes
unfoldable pub single_head : ℕ → List ℕ
single_head n = head_bytes 1 (size_for (n + 1)) ++ bytes_of (size_for (n + 1)) (n + 1)
