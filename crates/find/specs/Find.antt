-- The first glyph that has a name or a CID (document 01, 'Entries and their refusals'; the Rust's lookup tables keep the first). A glyph's id is its string id or CID.
use Rattle.std.specs.Prelude.{ℕ, ◌+◌, Bool, false, List, [], ◌∷◌, eqb, None, Option, Some}
use Rattle.octets.specs.Pick.{pick}
use Rattle.strings.specs.Text.{same_text_lem}
use Rattle.strings.specs.Strings.{string_text}

-- the first glyph from g on, of those with these ids, that has the id
unfoldable pub glyph_with_id : ℕ → ℕ → List ℕ → Option ℕ
glyph_with_id id g [] = None
glyph_with_id id g (x ∷ xs) = pick (eqb x id) (Some g) (glyph_with_id id (g + 1) xs)

-- the first glyph from g on, of those with these ids, whose text is the name
unfoldable pub glyph_with_text : List (List ℕ) → List ℕ → ℕ → List ℕ → Option ℕ
glyph_with_text strings name g [] = None
glyph_with_text strings name g (x ∷ xs) = pick (same_text_lem (string_text strings x) name) (Some g) (glyph_with_text strings name (g + 1) xs)

-- whether a standard string has the id
abbrev pub has_id : ℕ → Option ℕ → Bool
has_id id (Some k) = eqb k id
has_id id None = false
