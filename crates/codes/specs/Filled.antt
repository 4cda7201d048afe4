-- The glyphs of the 256 codes of a custom encoding as a table holds them (TN5176, section 12; document 02, Wish 4). A naming whose glyph there is not, or
-- whose code is above 255, is passed over.
use Rattle.std.specs.Prelude.{ℕ, ◌≡◌, List, [], ◌∷◌, ltb, length, set, None, Option, Some}
use Rattle.octets.specs.Pick.{pick}
use Rattle.charset.specs.Codes.{Naming}
use Rattle.cff.specs.Font.{Program}
use Rattle.subset.specs.Codes.{code_of, glyph_by}

-- the table once a code names a glyph, or none
abbrev pub stored : List (Option ℕ) → ℕ → Option ℕ → List (Option ℕ)
stored table code None = table
stored table code (Some g) = pick (ltb code 256) (set table code (Some g)) table

-- the table once all of these are stored
unfoldable pub filled : Program → List (Option ℕ) → List Naming → List (Option ℕ)
filled p table [] = table
filled p table (n ∷ ns) = filled p (stored table (code_of n) (glyph_by p n)) ns

-- the table once these are stored, all of which name glyphs by their number: of a font with n glyphs, whatever else it has
pub record Fills (n : ℕ) (old : List (Option ℕ)) (ns : List Naming) (new : List (Option ℕ)) : Type 0 where
  pub size : length new ≡ length old
  pub is : (p : Program) → length p.charstrings ≡ n → new ≡ filled p old ns
