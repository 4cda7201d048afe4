-- The codes of a name-keyed font (document 02, Wish 4): reading the subset gives each code whose glyph is kept the glyph of the same name, and no
-- other code any.
use Rattle.std.specs.Prelude.{ℕ, ◌<◌, ◌≡◌, Bool, true, false, List, length, Ok}
use Rattle.dict.specs.Lookup.{cid_keyed}
use Rattle.cff.specs.Font.{Program, read_font}
use Rattle.subset.specs.Kept.{kept_of}
use Rattle.subset.specs.Codes.{glyph_of, meant, kept_meant}
use Rattle.subset.specs.Cut.{Outcome, refused, subset}

-- each code whose glyph is kept has in the subset the glyph of the same name, and no other code has any
pub record CodesKept (p : Program) (keep : List ℕ) (q : Program) : Type 0 where
  pub codes : (code : ℕ) → code < 256
      → meant q (glyph_of q q.coding code) ≡ kept_meant p (kept_of (length p.charstrings) keep) (glyph_of p p.coding code)

-- where the encoding of a name-keyed font was asked for, of a font's bytes, a keep list and the outcome of the call
abbrev pub KeepsCodes : Bool → List ℕ → List ℕ → Outcome → Type 0
KeepsCodes ask font keep (refused n) = Unit
KeepsCodes ask font keep (subset way bs) =
    ask ≡ true → (p : Program) → read_font font ≡ Ok p → cid_keyed p.top ≡ false → (q : Program) × (read_font bs ≡ Ok q) × CodesKept p keep q
