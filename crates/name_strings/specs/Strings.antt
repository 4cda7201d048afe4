-- The String INDEX of a subset (document 01, 'Layout') as it is written: the strings of the slots first, and behind them those of the names.
use Rattle.std.specs.Prelude.{ℕ, ◌+◌, ◌≤◌, ◌<◌, ◌≡◌, List, [], length, take}
use Rattle.octets.specs.declared.out.Out.{Out}
use Rattle.octets.specs.Out.{Writes}
use Rattle.index.specs.Write.{size_for, head_bytes, index_for_lem}
use Rattle.index.specs.Begun.{Meant}
use Rattle.index.specs.ItemOut.{Begins}
use Rattle.index.specs.Index.{items_of}
use Rattle.index.specs.declared.Index.{Index}
use Rattle.cff.specs.declared.font.Font.{Font}
use Rattle.subset.specs.Texts.{own_strings_lem}
use Rattle.order.specs.Walks.{order_in}
use Rattle.own_strings.specs.declared.Own.{Own}
use Rattle.own_strings.specs.declared.slots.Slot.{Slot}
use Rattle.own_strings.specs.Slots.{sids_of, slot_texts, own_of, slots_own, all_own}
use Rattle.own_strings.specs.Ready.{IndexRoom}
use Rattle.name_strings.specs.declared.Started.{Started}
use Rattle.name_strings.specs.Names.{Naming}

-- there is room at a place for the own strings, which are those of the slots, and of other texts behind them
pub record StringsRoom (strings : List (List ℕ)) (slots : List Slot) (out : List ℕ) (at : ℕ) (own : Own) : Type 0 where
  pub others : List (List ℕ)
  pub room : IndexRoom out at (own_strings_lem (slots_own strings slots) others) own

-- the head of the INDEX was written, and, from mid on, the first strings
pub record StringsBegun (old : Out) (own : Own) (first : List (List ℕ)) (new : Out) (s : Started) : Type 0 where
  pub after : Out
  pub mid : Out
  pub is : s.ix ≡ index_for_lem old.at own.count own.total
  pub head : Writes old (head_bytes own.count (size_for (own.total + 1))) after
  pub from : mid.bytes ≡ after.bytes
  pub many : s.count ≡ length first
  pub begun : Begins mid s.ix first s.count new

-- before slot j: c strings are written behind the head, which mid has
pub record SlotWriting (strings : List (List ℕ)) (slots : List Slot) (mid : Out) (ix : Index) (out : Out) (c j : ℕ) : Type 0 where
  pub others : List (List ℕ)
  pub meant : Meant (length mid.bytes.now) ix (own_strings_lem (slots_own strings slots) others)
  pub small : length (own_strings_lem (slots_own strings slots) others) < 65536
  pub within : j ≤ 8
  pub counts : c ≡ length (own_strings_lem [] (slot_texts strings (take j (sids_of slots))))
  pub few : c ≤ length (own_strings_lem (slots_own strings slots) others)
  pub begun : Begins mid ix (own_strings_lem (slots_own strings slots) others) c out

-- before the name at place i: c own strings were met
pub record NameWriting (b : List ℕ) (f : Font) (ws : List ℕ) (slots : List Slot) (c i : ℕ) : Type 0 where
  pub naming : Naming b f ws slots (own_of (all_own (items_of b f.strings) slots (take i (order_in b f ws)))) i
  pub counts : c ≡ length (all_own (items_of b f.strings) slots (take i (order_in b f ws)))
  pub few : c ≤ length (all_own (items_of b f.strings) slots (order_in b f ws))
