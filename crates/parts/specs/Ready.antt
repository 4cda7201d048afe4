-- What is ready when the bodies of a subset are written (document 01, 'Corners in write.rs'): the work words and the tables as the plan left
-- them, and the sizes that it found, in the terms of the subset (crates/subset, Pruned; crates/bodies, bodies_by).
use Rattle.std.specs.Prelude.{ℕ, ◌≤◌, ◌<◌, ◌≡◌, Bool, true, ◌&&◌, ◌||◌, List, eqb, length, get_or}
use Rattle.index.specs.Write.{total}
use Rattle.unfold.specs.Unfold.{Row}
use Rattle.cff.specs.Reads.{program_of}
use Rattle.subset.specs.Pruned.{Bodies}
use Rattle.faithful.specs.FontHeld.{FontHeld}
use Rattle.small.specs.Small.{small_size}
use Rattle.order_window.specs.declared.Order.{Order}
use Rattle.order_window.specs.Window.{glyphs_of, Gathered}
use Rattle.renumber.specs.declared.Ranks.{Ranks}
use Rattle.bodies.specs.Pruning.{bodies_by}
use Rattle.fds.specs.Locals.{in_use_lem, fds_in, UsedOf}
use Rattle.fds.specs.NewLocals.{new_locals}
use Rattle.plan.specs.Ranked.{AllRanked, every_numbered}
use Rattle.plan.specs.Sizes.{FdsUsed, all_made, MeasureIn, Narrow}
use Rattle.parts.specs.declared.Planned.{Planned}
use Rattle.subset.specs.Way.{is_renumbered}

-- what planning asks: the kept glyphs, whose FDs are in use, and words for the bits of all subroutines
pub record PlanIn (b : List ℕ) (o : Order) (used ws window : List ℕ) : Type 0 where
  pub read : FontHeld b o.f
  pub used_long : 256 ≤ length used
  pub fds : UsedOf (length (program_of b o.f).privates) used
  pub ordered : Gathered b ws window o
  pub within : FdsUsed (program_of b o.f) used (glyphs_of b o.f ws)
  pub room : small_size (program_of b o.f) ≤ length ws

-- whether no loop over the kept glyphs has begun: the window holds all of them, or none
abbrev pub at_rest : Order → Bool
at_rest o = eqb o.held.from 0 && (eqb o.held.walk.done 0 || eqb o.held.walk.done o.count)

module _ (b : List ℕ) (rows : List Row) (used ws : List ℕ) (r : Planned) where
  -- the bodies of the subset, by the way
  abbrev pub bodies_for : Bodies
  bodies_for = bodies_by (program_of b r.order.f) rows r.how.way (fds_in used) (glyphs_of b r.order.f ws)

  -- what the plan leaves
  pub record Ready (table : List Ranks) : Type 0 where
    pub read : FontHeld b r.order.f
    pub narrow : Narrow rows
    pub asked : MeasureIn b r.order used ws r.how table rows
    pub many : r.order.count ≡ length (glyphs_of b r.order.f ws)
    pub few : r.order.count < 65536
    pub within : FdsUsed (program_of b r.order.f) used (glyphs_of b r.order.f ws)
    pub ranked : AllRanked (program_of b r.order.f) rows used ws r.how.globals table
    pub numbered : is_renumbered r.how.way ≡ true → every_numbered (program_of b r.order.f) rows (fds_in used) ≡ true
    pub made : all_made r.how.way (program_of b r.order.f) rows ws used table r.how.globals (glyphs_of b r.order.f ws) ≡ true
    pub globals_total_lem : r.globals_total ≡ total bodies_for.globals
    pub glyphs_total_lem : r.glyphs_total ≡ total bodies_for.charstrings
    pub globals_few : r.globals_total ≤ 21989897011200
    pub glyphs_few : r.glyphs_total ≤ 21989897011200

  -- a table of the bytes of the new local subroutines of each FD in use
  pub record Summed (table : List Ranks) (totals : List ℕ) : Type 0 where
    pub long : 256 ≤ length totals
    pub sums : (d : ℕ) → d < 256 → in_use_lem used d ≡ true
        → get_or totals d 0 ≡ total (new_locals r.how.way (program_of b r.order.f) rows ws table r.how.globals d)
    pub few : (d : ℕ) → d < 256 → in_use_lem used d ≡ true → get_or totals d 0 ≤ 21989897011200
