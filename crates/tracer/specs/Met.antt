-- The rows that the marked glyphs of a font meet (document 02, Wish 1).
use Rattle.std.specs.Prelude.{ℕ, ◌≡◌, List, [], None, Option, Some}
use Rattle.unfold.specs.Unfold.{Row}
use Rattle.cff.specs.Reads.{program_of}
use Rattle.cff.specs.declared.font.Font.{Font}
use Rattle.subset.specs.Kept.{those}
use Rattle.kept.specs.Packed.{marked}
use Rattle.traced.specs.Traced.{met_all}

-- the rows that the marked glyphs meet, where all are plain
abbrev pub met_in : List ℕ → Font → List ℕ → Option (List Row)
met_in b f marks = met_all (program_of b f) (those (marked marks) f.charstrings.count 0)

abbrev pub or_none : Option (List Row) → List Row
or_none None = []
or_none (Some rows) = rows

-- all of them are
pub record Plainly (m : Option (List Row)) : Type 0 where
  pub plain : m ≡ Some (or_none m)
