-- The names of the kept glyphs as strings that a name-keyed subset uses (document 01, 'Layout'), in the order in which they are written (document 02,
-- Wish 10): their new ids, and a loop that gives them one by one.
use Rattle.std.specs.Prelude.{ℕ, ◌≤◌, ◌<◌, ◌≡◌, List, length, take}
use Rattle.index.specs.Index.{items_of}
use Rattle.index.specs.Items.{items}
use Rattle.cff.specs.declared.font.Font.{Font}
use Rattle.subset.specs.Subset.{new_ids}
use Rattle.order.specs.Walks.{order_in}
use Rattle.order_window.specs.declared.window.Kept.{Kept}
use Rattle.own_strings.specs.declared.Own.{Own}
use Rattle.own_strings.specs.declared.slots.Slot.{Slot}
use Rattle.own_strings.specs.Slots.{slots_own, word_names, Different, own_of, all_own}
use Rattle.own_strings.specs.Ready.{HasStrings, SlotsGiven}
use Rattle.name_strings.specs.declared.slots.GivenSlots.{GivenSlots}

-- the names of the kept glyphs differ
pub record NamesApart (b : List ℕ) (f : Font) (ws : List ℕ) : Type 0 where
  pub apart : Different (word_names (items_of b f.strings) (order_in b f ws))

-- the new string ids of the names, the slots being those before them
abbrev pub new_names : List ℕ → Font → List ℕ → List Slot → List ℕ
new_names b f ws slots =
    new_ids (all_own (items_of b f.strings) slots (order_in b f ws)) (word_names (items_of b f.strings) (order_in b f ws))

-- the own strings of eight slots
abbrev pub own_in : GivenSlots → List (List ℕ)
own_in s = slots_own (items s.strings) (take 8 s.slots.now)

-- the same of kept glyphs: the strings of their font, and the new ids of their names
abbrev pub strings_of : Kept → List (List ℕ)
strings_of k = items_of k.font.now k.o.f.strings

abbrev pub names_for : Kept → List Slot → List ℕ
names_for k slots = new_names k.font.now k.o.f k.words.now slots

-- the names of kept glyphs can be given their new ids: the font is not too long, the slots have theirs, and the names differ
pub record NamesReady (k : Kept) (slots : List Slot) : Type 0 where
  pub small : length k.font.now ≤ 67108864
  pub given : SlotsGiven (strings_of k) slots
  pub apart : NamesApart k.font.now k.o.f k.words.now

-- a loop over the names that comes to place i: the own strings of the slots and of the names before it are counted
pub record Naming (b : List ℕ) (f : Font) (ws : List ℕ) (slots : List Slot) (own : Own) (i : ℕ) : Type 0 where
  pub has : HasStrings b f.strings
  pub given : SlotsGiven (items_of b f.strings) slots
  pub apart : NamesApart b f ws
  pub few : length (order_in b f ws) < 65536
  pub within : i ≤ length (order_in b f ws)
  pub counts : own ≡ own_of (all_own (items_of b f.strings) slots (take i (order_in b f ws)))
