-- The charstrings of the kept glyphs of a subset, by the way (document 01, 'Corners in write.rs'), in the order in which they are written.
use Rattle.std.specs.Prelude.{ℕ, ◌≤◌, ◌<◌, ◌≡◌, true, List, [], length, get_or, Option}
use Rattle.index.specs.Index.{items_of}
use Rattle.unfold.specs.Unfold.{Row, glyph}
use Rattle.cff.specs.Reads.{program_of}
use Rattle.subset.specs.Pruned.{each}
use Rattle.reach.specs.Reach.{rises}
use Rattle.renumber.specs.Ranks.{calls_by, Ranked}
use Rattle.renumber.specs.declared.Ranks.{Ranks}
use Rattle.order_window.specs.Window.{glyphs_of}
use Rattle.order_window.specs.declared.Order.{Order}
use Rattle.bodies.specs.Ways.{body_by, ranks_in}
use Rattle.bodies.specs.declared.Manner.{Manner}
use Rattle.subset.specs.declared.Way.{Way}

-- a glyph's charstring by the way, or that its renumbering fails; fds has the FD of each glyph
module _ (way : Way) (rows : List Row) (fds ws : List ℕ) (table : List Ranks) (globals : Ranks) (items : List (List ℕ)) where
  abbrev pub charstring_of : ℕ → Option (List ℕ)
  charstring_of g = body_by way rows (calls_by ws (ranks_in table (get_or fds g 0)) globals) (glyph g) (get_or items g [])

  -- those of some glyphs
  abbrev pub charstrings_of : List ℕ → Option (List (List ℕ))
  charstrings_of order = each charstring_of order

-- what the charstrings ask of the font, the words and the tables
pub record CharstringsIn (b ws : List ℕ) (table : List Ranks) (o : Order) (how : Manner) (rows : List Row) : Type 0 where
  pub size : length b ≤ 67108864
  pub table_long : 256 ≤ length table
  pub fds : (i : ℕ) → i < o.count → get_or (program_of b o.f).fds (get_or (glyphs_of b o.f ws) i 0) 0 < 256
  pub local_ranks : (i : ℕ) → i < o.count → Ranked ws (ranks_in table (get_or (program_of b o.f).fds (get_or (glyphs_of b o.f ws) i 0) 0))
  pub global_ranks : Ranked ws how.globals
  pub order : how.rising ≡ true → rises rows ≡ true

-- the charstrings of the kept glyphs by the way, or that their renumbering fails
abbrev pub charstrings_from : Manner → Order → List Row → List ℕ → List Ranks → List ℕ → Option (List (List ℕ))
charstrings_from how o rows ws table b =
    charstrings_of how.way rows (program_of b o.f).fds ws table how.globals (items_of b o.f.charstrings) (glyphs_of b o.f ws)
