-- A window of the order in which the kept glyphs are written (document 02, Wish 10), by the places of the order that it holds.
use Rattle.std.specs.Prelude.{ℕ, ◌-◌, ◌*◌, ◌≤◌, ◌<◌, ◌≡◌, true, false, ◌⊎◌, List, length, take, drop}
use Rattle.bits.specs.Bits.{words_for, bit_in}
use Rattle.cff.specs.Reads.{program_of, GoodFont}
use Rattle.cff.specs.declared.font.Font.{Font}
use Rattle.subset.specs.Kept.{written_order}
use Rattle.subset.specs.Cut.{all_found_lem}
use Rattle.order.specs.Order.{kept_in}
use Rattle.order.specs.Walks.{many_in, order_in, start_of, seeks, Stands}
use Rattle.order_window.specs.declared.Held.{Held}
use Rattle.order_window.specs.declared.Order.{Order}

-- the kept glyphs of a font as they are written, by their bits
abbrev pub glyphs_of : List ℕ → Font → List ℕ → List ℕ
glyphs_of b f ws = written_order (program_of b f) (kept_in (many_in f) ws)

-- the window begins with the words of the order from place `from` on, up to where the walk stands; it can be filled from the start again
pub record Holds (b : List ℕ) (f : Font) (ws window : List ℕ) (h : Held) : Type 0 where
  pub stands : Stands b f ws h.walk
  pub first : Stands b f ws (start_of f (seeks h.walk.next))
  pub ordered : h.from ≤ h.walk.done
  pub fits : h.walk.done - h.from ≤ length window
  pub words : take (h.walk.done - h.from) window ≡ take (h.walk.done - h.from) (drop h.from (order_in b f ws))

-- a bit for each kept glyph of a font, and for nothing else: one at least, and each is found
pub record Marked (b : List ℕ) (f : Font) (ws : List ℕ) : Type 0 where
  pub good : GoodFont b f
  pub bits : words_for (many_in f) ≤ length ws
  pub none : (i : ℕ) → many_in f ≤ i → i < 32 * words_for (many_in f) → bit_in ws 0 i ≡ false
  pub found : all_found_lem (program_of b f) (kept_in (many_in f) ws) ≡ true
  pub one : 0 < length (kept_in (many_in f) ws)

-- the window where no loop has begun: it holds all words, or none
pub record Steady (b : List ℕ) (f : Font) (ws window : List ℕ) (h : Held) : Type 0 where
  pub holds : Holds b f ws window h
  pub front : h.from ≡ 0
  pub whole : (h.walk.done ≡ 0) ⊎ (h.walk.done ≡ length (order_in b f ws))

-- the window holds all kept glyphs
abbrev pub HoldsAll : Order → Type 0
HoldsAll o = (o.held.from ≡ 0) × (o.held.walk.done ≡ o.count)

-- the kept glyphs of a font, and the window, which may hold any part of their order
pub record Gathered (b ws window : List ℕ) (o : Order) : Type 0 where
  pub good : GoodFont b o.f
  pub bits : words_for (many_in o.f) ≤ length ws
  pub some : 0 < length window
  pub holds : Holds b o.f ws window o.held
  pub many : o.count ≡ length (order_in b o.f ws)
  pub one : 0 < o.count
  pub few : o.count < 65536
