-- Laws of the front: its length, its parts one behind the other, and what their writers ask.
use Rattle.std.specs.Prelude.{ℕ, ◌+◌, ◌≤◌, ◌<◌, ◌≡◌, refl, Bool, List, [], ◌∷◌, ◌++◌, length}
use Rattle.std.proofs.Common.{sym, ap, ◌∙◌, append_assoc, add-zero, arith, length-append}
use Rattle.octets.specs.declared.out.Out.{Out}
use Rattle.octets.specs.Out.{Writes}
use Rattle.octets.specs.OutLaws.{writes_then, writes_as}
use Rattle.index.specs.Write.{total, size_for, index_bytes, index_len_lem}
use Rattle.index.specs.WriteLaws.{length-index, total-within}
use Rattle.cff.specs.Font.{Program}
use Rattle.cff.specs.Reads.{program_of}
use Rattle.cff.specs.declared.font.Font.{Font}
use Rattle.cff.specs.declared.loaded.Loaded.{Loaded}
use Rattle.own_strings.specs.declared.Own.{Own}
use Rattle.own_strings.specs.declared.slots.Slot.{Slot}
use Rattle.own_strings.specs.Slots.{own_of}
use Rattle.own_strings.specs.Ready.{IndexRoom}
use Rattle.top_dict.specs.Top.{Filled, top_len}
use Rattle.top_dict.specs.Writing.{Split, split-append, split-room, Writing, writing_start, writing-room, writing-turn, writing-left, writing-last}
use Rattle.front.specs.Front.{SmallFont, SlotsReady, front_len, header_bytes, front_bytes, Fits}
use Rattle.front.specs.SlotLaws.{slots_filled}
use Rattle.front.specs.PrepareLaws.{has-strings}

-- ---- lengths

-- an item is no longer than its INDEX
item-within : (x : List ℕ) → length x ≤ length (index_bytes (x ∷ []))
unfolding total
item-within x = omega (arith, total-within (x ∷ []))

single-length : (x : List ℕ) → length (index_bytes (x ∷ [])) ≡ index_len_lem 1 (length x)
unfolding total
single-length x = length-index (x ∷ []) ∙ ap (index_len_lem 1) (add-zero (length x))

-- ---- the parts, one behind the other

-- the header in two pairs, and the names
pub header-wrote : {old mid mid2 new : Out} (all size : ℕ) (name : List ℕ) → size ≡ size_for all → old.at ≤ length old.bytes.now → Writes old (1 ∷ 0 ∷ []) mid
    → Writes mid (4 ∷ size ∷ []) mid2 → Writes mid2 (index_bytes (name ∷ [])) new → Writes old (header_bytes all ++ index_bytes (name ∷ [])) new
header-wrote all size name e z w v u =
    writes_as (writes_then z (writes_then z w v) u) (ap (λ (s : ℕ). 1 ∷ 0 ∷ 4 ∷ s ∷ index_bytes (name ∷ [])) e)

module _ (all : ℕ) (name top : List ℕ) (own : List (List ℕ)) where
  -- its length, of bytes and as it is measured
  pub front-sum : length (front_bytes all name top own) ≡ 4 + length (index_bytes (name ∷ [])) + length (index_bytes (top ∷ [])) + length (index_bytes own)
  front-sum =
      omega (arith, length-append (index_bytes (name ∷ [])) (index_bytes (top ∷ []) ++ index_bytes own), length-append (index_bytes (top ∷ [])) (index_bytes own))

  pub front_length : length (front_bytes all name top own) ≡ 4 + index_len_lem 1 (length name) + index_len_lem 1 (length top) + index_len_lem (length own) (total own)
  front_length = omega (arith, front-sum, single-length name, single-length top, length-index own)

  -- the front and the rest of a subset, as crates/subset writes them
  pub front-then : (rest : List ℕ)
      → 1 ∷ 0 ∷ 4 ∷ size_for all ∷ (index_bytes (name ∷ []) ++ (index_bytes (top ∷ []) ++ (index_bytes own ++ rest))) ≡ front_bytes all name top own ++ rest
  front-then rest =
      ap (λ (l : List ℕ). 1 ∷ 0 ∷ 4 ∷ size_for all ∷ (index_bytes (name ∷ []) ++ l)) (sym (append_assoc (index_bytes (top ∷ [])) (index_bytes own) rest))
      ∙ ap (λ (l : List ℕ). 1 ∷ 0 ∷ 4 ∷ size_for all ∷ l) (sym (append_assoc (index_bytes (name ∷ [])) (index_bytes (top ∷ []) ++ index_bytes own) rest))

  -- header and names, and what follows them
  front-parts : Split (front_bytes all name top own) (header_bytes all ++ index_bytes (name ∷ [])) (index_bytes (top ∷ []) ++ index_bytes own)
  front-parts = record { is = refl }

  -- the parts are within it
  pub front-top : length top ≤ length (front_bytes all name top own)
  front-top = omega (arith, front-sum, item-within top)

  pub front-strings : total own ≤ length (front_bytes all name top own)
  front-strings = omega (arith, front-sum, total-within own)

  module _ (out : Out) (room : out.at + length (front_bytes all name top own) ≤ length out.bytes.now) where
    pub names-room : out.at + length (header_bytes all ++ index_bytes (name ∷ [])) ≤ length out.bytes.now
    names-room = omega (arith, split-room out.at (length out.bytes.now) room front-parts)

    module _ {mid : Out} (w : Writes out (header_bytes all ++ index_bytes (name ∷ [])) mid) where
      opened : Writing (front_bytes all name top own) out.bytes.now out.at (index_bytes (top ∷ []) ++ index_bytes own) mid.bytes.now mid.at
      opened = writing-turn room front-parts (writing_start (front_bytes all name top own) out.bytes.now out.at) w.wrote

      pub top-room : mid.at + length (index_bytes (top ∷ [])) ≤ length mid.bytes.now
      top-room = writing-room room (split-append (index_bytes (top ∷ [])) (index_bytes own)) opened

      module _ {mid2 : Out} (v : Writes mid (index_bytes (top ∷ [])) mid2) where
        topped : Writing (front_bytes all name top own) out.bytes.now out.at (index_bytes own) mid2.bytes.now mid2.at
        topped = writing-turn room (split-append (index_bytes (top ∷ [])) (index_bytes own)) opened v.wrote

        pub strings-room : mid2.at + length (index_bytes own) ≤ length mid2.bytes.now
        strings-room = writing-left room topped

        pub strings-low : mid2.at ≤ out.at + length (front_bytes all name top own)
        strings-low = omega (arith, topped.wrote.behind, ap length topped.whole, length-append topped.done (index_bytes own))

        pub front-wrote : {new : Out} → Writes mid2 (index_bytes own) new → Writes out (front_bytes all name top own) new
        front-wrote x = record { wrote = writing-last room topped x.wrote; same = x.same ∙ (v.same ∙ w.same); size = x.size ∙ (v.size ∙ w.size) }

-- ---- what the writers ask

-- a font in its type that is not too long
pub small_font : (font : Loaded) → length font.bytes.now ≤ 67108864 → SmallFont font.bytes.now font.f
small_font font small = record { good = font.good; small = small }

-- the new ids of a font's slots are string ids
pub ready_filled : (b : List ℕ) (f : Font) (cid : Bool) (slots : List Slot) → SmallFont b f → SlotsReady (program_of b f) cid slots → Filled slots
ready_filled b f cid slots s g = slots_filled b f.strings (has-strings b f s) slots g.given

-- the measured length is that of the front with any top DICT of the measured length
pub measured-front : (p : Program) (cid : Bool) (v : ℕ) (slots : List Slot) (own : Own) (all : ℕ) (name top : List ℕ) (strings : List (List ℕ))
    → top_len cid v p.top slots ≡ length top → own ≡ own_of strings → length (front_bytes all name top strings) ≡ front_len cid v p.top slots (length name) own
measured-front p cid v slots own all name top strings m e =
    front_length all name top strings
    ∙ ap (λ (t : ℕ). 4 + index_len_lem 1 (length name) + index_len_lem 1 t + index_len_lem (length strings) (total strings)) (sym m)
    ∙ ap (λ (o : Own). 4 + index_len_lem 1 (length name) + index_len_lem 1 (top_len cid v p.top slots) + index_len_lem o.count o.total) (sym e)

module _ (p : Program) (cid : Bool) (v : ℕ) (slots : List Slot) (own : Own) (name : List ℕ) (out : Out) (z : out.at ≡ 0)
    (fits : Fits cid v p.top slots own (length name) (length out.bytes.now)) (all : ℕ) (top : List ℕ) (strings : List (List ℕ)) (m : top_len cid v p.top slots ≡ length top) (e : own ≡ own_of strings) where
  whole : length (front_bytes all name top strings) ≡ front_len cid v p.top slots (length name) own
  whole = measured-front p cid v slots own all name top strings m e

  pub front-room : out.at + length (front_bytes all name top strings) ≤ length out.bytes.now
  front-room = omega (arith, whole, fits.room, z)

  pub top-short : top_len cid v p.top slots < 4294967295
  top-short = omega (arith, m, front-top all name top strings, whole, fits.small)

  pub strings-asked : {mid mid2 : Out} → Writes out (header_bytes all ++ index_bytes (name ∷ [])) mid → Writes mid (index_bytes (top ∷ [])) mid2
      → IndexRoom mid2.bytes.now mid2.at strings own
  strings-asked w x =
      record {
        is = e;
        few = omega (arith, fits.few);
        small = omega (arith, ap (λ (o : Own). o.total) e, front-strings all name top strings, whole, fits.small);
        low = omega (arith, strings-low all name top strings out front-room w x, whole, fits.small, z);
        room = strings-room all name top strings out front-room w x;
      }
