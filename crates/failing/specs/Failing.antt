-- What is asked to find a body that cannot be renumbered (document 02, Wish 12), and what it says: one kept glyph runs it, and no other can be the culprit.
use Rattle.std.specs.Prelude.{ℕ, ◌≤◌, ◌<◌, ◌≡◌, true, false, List, [], ◌∷◌, length, get_or, None, Option, Some}
use Rattle.octets.specs.Pick.{pick}
use Rattle.unfold.specs.Unfold.{Row, glyph}
use Rattle.prune.specs.Bodies.{All}
use Rattle.cff.specs.Font.{Program}
use Rattle.cff.specs.Reads.{program_of}
use Rattle.cff.specs.declared.font.Font.{Font}
use Rattle.traced.specs.Traced.{record_of}
use Rattle.traced.specs.RowLaws.{RowFits}
use Rattle.traced.specs.Theorem.{kept_rows}
use Rattle.renumber.specs.declared.Ranks.{Ranks}
use Rattle.bodies.specs.Ways.{holds}
use Rattle.fds.specs.Locals.{in_use_lem, fds_in, UsedOf}
use Rattle.plan.specs.Ranked.{AllRanked, every_numbered}
use Rattle.plan.specs.Sizes.{Narrow}
use Rattle.faithful.specs.FontHeld.{FontHeld}
use Rattle.culprit.specs.Culprit.{is_culprit}
use Rattle.culprit.specs.NarrowLaws.{body_at}

-- the FDs that are marked are of the font, and those of glyph 0 and of a keep list are marked
pub record FdsMarked (p : Program) (keep used : List ℕ) : Type 0 where
  pub long : length used ≡ 256
  pub of : UsedOf (length p.privates) used
  pub first : in_use_lem used (get_or p.fds 0 0) ≡ true
  pub each : (i : ℕ) → i < length keep → in_use_lem used (get_or p.fds (get_or keep i 0) 0) ≡ true

-- the words hold the bits of all subroutines that rows have, each of which is there
pub record Asks (b : List ℕ) (f : Font) (rows : List Row) (used ws : List ℕ) (globals : Ranks) (table : List Ranks) : Type 0 where
  pub read : FontHeld b f
  pub narrow : Narrow rows
  pub ranked : AllRanked (program_of b f) rows used ws globals table
  pub numbered : every_numbered (program_of b f) rows (fds_in used) ≡ true
  pub table_long : 256 ≤ length table

-- the first of some glyphs whose charstring cannot be renumbered
unfoldable pub first_failing : Program → List Row → List ℕ → Option ℕ
first_failing p rows [] = None
first_failing p rows (g ∷ gs) = pick (holds (body_at p rows (glyph g))) (first_failing p rows gs) (Some g)

-- a record is that of the rows that the kept glyphs meet, all being plain
pub record Recorded (p : Program) (keep rec : List ℕ) : Type 0 where
  pub rows : List Row
  pub met : kept_rows p keep ≡ Some rows
  pub is : rec ≡ record_of rows
  pub fits : All RowFits rows

-- no glyph but g, which the font has, can be the culprit; or nothing is said, where there is no g
pub record Only (p : Program) (keep : List ℕ) (only : Option ℕ) : Type 0 where
  pub there : (g : ℕ) → only ≡ Some g → g < length p.charstrings
  pub others : (g : ℕ) → only ≡ Some g → (name : List ℕ) (words lent h : ℕ) → (g ≡ h → ⊥) → is_culprit p name keep words lent h ≡ false
