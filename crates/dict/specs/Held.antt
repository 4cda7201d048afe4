-- A DICT as a value that holds its bytes: its entries, and what reading it answers.
use Rattle.std.specs.Prelude.{ℕ, ◌≡◌, List, Option, Some, None, Result, Ok, Err}
use Rattle.dict.specs.Dict.{Entry, dict_of}
use Rattle.dict.specs.Lookup.{private_in}
use Rattle.dict.specs.Places.{refusal_of, entries_of, place_of}
use Rattle.dict.specs.declared.OperandsAt.{OperandsAt}
use Rattle.dict.specs.declared.PrivateEntry.{PrivateEntry}
use Rattle.dict.specs.declared.placed.Dict.{Dict}
use Rattle.refusal.specs.declared.Refusal.{Refusal}

abbrev pub entries : Dict → List Entry
entries d = entries_of d.bytes.now

-- the refusal of a DICT, or it with the places of its entries
abbrev pub ReadsDict : List ℕ → Result Dict Refusal → Type 0
ReadsDict b (Err n) = refusal_of (dict_of b) ≡ Some n
ReadsDict b (Ok d) = (refusal_of (dict_of b) ≡ None) × (d.bytes.now ≡ b)

-- the refusal of a DICT, or where the last entry of one operator stands
abbrev pub ReadsPlace : List ℕ → ℕ → Result (Option OperandsAt) Refusal → Type 0
ReadsPlace b op (Err n) = refusal_of (dict_of b) ≡ Some n
ReadsPlace b op (Ok found) = (refusal_of (dict_of b) ≡ None) × (found ≡ place_of op b)

-- the refusal of a DICT, or what its Private entry says
abbrev pub private_read : Result (List Entry) Refusal → Result (Option PrivateEntry) Refusal
private_read (Err n) = Err n
private_read (Ok es) = private_in es
