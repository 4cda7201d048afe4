-- Letter size in CID fonts (document 02, Wish 2): the FontMatrix of each FD in use is that of its new FD, so that each kept glyph is drawn in the size
-- that it had.
use Rattle.std.specs.Prelude.{ℕ, ◌<◌, ◌≡◌, true, List, length, get_or, Ok, Some}
use Rattle.dict.specs.Lookup.{Operands, cid_keyed}
use Rattle.cff.specs.Font.{Program, read_font}
use Rattle.subset.specs.Kept.{kept_of, used_fds}
use Rattle.subset.specs.Subset.{matrix_of}
use Rattle.subset.specs.Cut.{Outcome, refused, subset}
use Rattle.faithful.specs.Faithful.{IsKept, found_for}

-- the FontMatrix of a glyph's FD
abbrev pub matrix_for : Program → ℕ → Operands
matrix_for p g = matrix_of p (get_or p.fds g 0)

-- a subset with the matrices of a font: the k-th FD has that of the k-th FD in use, with the same numbers, or none where that has none; and what
-- finding gives for a kept glyph has that of the glyph
pub record KeepsMatrices (p : Program) (keep : List ℕ) (bs : List ℕ) : Type 0 where
  pub program : Program
  pub reads : read_font bs ≡ Ok program
  pub fds : (k : ℕ) → k < length (used_fds p (kept_of (length p.charstrings) keep))
      → matrix_of program k ≡ matrix_of p (get_or (used_fds p (kept_of (length p.charstrings) keep)) k 0)
  pub glyphs : (g : ℕ) → IsKept p keep g → (new : ℕ) × (found_for p g bs ≡ Ok (Some new)) × (matrix_for program new ≡ matrix_for p g)

-- of a font's bytes, a keep list, and the outcome of a call
abbrev pub Scaled : List ℕ → List ℕ → Outcome → Type 0
Scaled font keep (refused n) = Unit
Scaled font keep (subset way bs) = (p : Program) → read_font font ≡ Ok p → cid_keyed p.top ≡ true → KeepsMatrices p keep bs
