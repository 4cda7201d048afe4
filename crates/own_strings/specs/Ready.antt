-- What the functions over the strings of a subset (document 01, 'Layout') require: what those before them leave in the slots.
use Rattle.std.specs.Prelude.{ℕ, ◌+◌, ◌≤◌, ◌<◌, ◌≡◌, List, length}
use Rattle.index.specs.Good.{Good}
use Rattle.index.specs.Write.{index_bytes}
use Rattle.index.specs.declared.Index.{Index}
use Rattle.own_strings.specs.declared.Own.{Own}
use Rattle.own_strings.specs.Slots.{sids_of, ids_of, slot_ids, own_of, slots_own}
use Rattle.own_strings.specs.declared.slots.Slot.{Slot}

-- the font's strings can be read
pub record HasStrings (b : List ℕ) (ix : Index) : Type 0 where
  pub good : Good b ix
  pub small : length b ≤ 67108864

-- eight slots have their new ids
pub record SlotsGiven (strings : List (List ℕ)) (slots : List Slot) : Type 0 where
  pub eight : length slots ≡ 8
  pub ids : ids_of slots ≡ slot_ids (slots_own strings slots) strings (sids_of slots)

-- the own strings are few, and out has room for their INDEX at a place
pub record IndexRoom (out : List ℕ) (at : ℕ) (all : List (List ℕ)) (own : Own) : Type 0 where
  pub is : own ≡ own_of all
  pub few : own.count < 65536
  pub small : own.total < 4294967295
  pub low : at < 4294967296
  pub room : at + length (index_bytes all) ≤ length out
