-- The front of a subset over what the code holds (document 01, 'Layout'; crates/subset, subset_by_name and subset_by_cid): header, names, top DICT
-- and strings. The font is held by positions; eight slots hold the string ids of its top DICT and the new ones; the kept glyphs are
-- read through a window of the order in which they are written (crates/order_window).
use Rattle.std.specs.Prelude.{ℕ, ◌+◌, ◌≤◌, ◌≡◌, Bool, true, false, List, [], ◌∷◌, ◌++◌, length, take}
use Rattle.dict.specs.Dict.{Entry}
use Rattle.index.specs.Write.{size_for, index_bytes, index_len_lem}
use Rattle.cff.specs.Font.{Program}
use Rattle.cff.specs.Reads.{GoodFont, program_of}
use Rattle.cff.specs.declared.font.Font.{Font}
use Rattle.subset.specs.Subset.{own_by_name, own_by_cid}
use Rattle.order_window.specs.declared.window.Kept.{Kept}
use Rattle.order_window.specs.Window.{glyphs_of}
use Rattle.own_strings.specs.declared.Own.{Own}
use Rattle.own_strings.specs.declared.slots.Slot.{Slot}
use Rattle.own_strings.specs.Slots.{sids_of, slots_of, own_of}
use Rattle.own_strings.specs.Ready.{SlotsGiven}
use Rattle.name_strings.specs.Names.{NamesApart}
use Rattle.top_dict.specs.Top.{top_len}

-- a font that was read and is not too long
pub record SmallFont (b : List ℕ) (f : Font) : Type 0 where
  pub good : GoodFont b f
  pub small : length b ≤ 67108864

-- the font of kept glyphs
abbrev pub kept_program : Kept → Program
kept_program k = program_of k.font.now k.o.f

-- ---- slots and own strings

-- the slots hold the string ids of the top DICT, by the keying of the subset, and their new ids
pub record SlotsReady (p : Program) (cid : Bool) (slots : List Slot) : Type 0 where
  pub front : sids_of slots ≡ slots_of cid p.top
  pub given : SlotsGiven p.strings slots

-- how many own strings there are, and their bytes together
pub record Measured (all : List (List ℕ)) (own : Own) : Type 0 where
  pub is : own ≡ own_of all
  pub few : own.count ≤ 65544
  pub short : own.total ≤ 4398583382016

-- ---- the front

-- the length of the front, for an Encoding at v and a name of so many bytes
abbrev pub front_len : Bool → ℕ → List Entry → List Slot → ℕ → Own → ℕ
front_len cid v es slots name own = 4 + index_len_lem 1 name + index_len_lem 1 (top_len cid v es slots) + index_len_lem own.count own.total

-- the header of a subset of so many bytes
abbrev pub header_bytes : ℕ → List ℕ
header_bytes total = 1 ∷ 0 ∷ 4 ∷ size_for total ∷ []

-- the front of a subset of so many bytes, by its name, its top DICT and its own strings
abbrev pub front_bytes : ℕ → List ℕ → List ℕ → List (List ℕ) → List ℕ
front_bytes total name top own = 1 ∷ 0 ∷ 4 ∷ size_for total ∷ (index_bytes (name ∷ []) ++ (index_bytes (top ∷ []) ++ index_bytes own))

-- own strings are few, and the front that was measured is not too long and has room
pub record Fits (cid : Bool) (v : ℕ) (es : List Entry) (slots : List Slot) (own : Own) (name out : ℕ) : Type 0 where
  pub few : own.count ≤ 64609
  pub short : name ≤ 65535
  pub small : front_len cid v es slots name own ≤ 67108864
  pub room : front_len cid v es slots name own ≤ out

-- what is ready when the front of a name-keyed subset is written
pub record NamedFront (b : List ℕ) (f : Font) (v : ℕ) (slots : List Slot) (own : Own) (ws : List ℕ) (name out : ℕ) : Type 0 where
  pub font : SmallFont b f
  pub ready : SlotsReady (program_of b f) false slots
  pub apart : NamesApart b f ws
  pub is : own ≡ own_of (own_by_name (program_of b f) (glyphs_of b f ws))
  pub fits : Fits false v (program_of b f).top slots own name out

-- and that of a CID-keyed one
pub record CidFront (b : List ℕ) (f : Font) (slots : List Slot) (own : Own) (name out : ℕ) : Type 0 where
  pub font : SmallFont b f
  pub ready : SlotsReady (program_of b f) true slots
  pub is : own ≡ own_of (own_by_cid (program_of b f))
  pub fits : Fits true 0 (program_of b f).top slots own name out
