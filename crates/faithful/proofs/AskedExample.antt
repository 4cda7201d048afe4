-- A glyph of the keep list is kept: an example of its own, which an edit of `IsKept` turns.
use Rattle.std.specs.Prelude.{ℕ, ◌<◌, ◌≡◌, refl, true, List, length}
use Rattle.std.proofs.Common.{inr}
use Rattle.cff.specs.Font.{Program}
use Rattle.subset.specs.Kept.{is_in}
use Rattle.faithful.specs.Faithful.{IsKept}

-- a glyph of the keep list is kept
pub asked-kept : (p : Program) (keep : List ℕ) (g : ℕ) → g < length p.charstrings → is_in g keep ≡ true → IsKept p keep g
asked-kept p keep g there e = record { there = there; asked = inr e }
