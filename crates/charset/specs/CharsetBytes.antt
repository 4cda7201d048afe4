-- A written charset (TN5176, section 13, format 0; the Rust's `charset_format0`): the format, and two bytes for the id of each glyph but
-- glyph 0.
use Rattle.std.specs.Prelude.{ℕ, ◌+◌, ◌-◌, ◌*◌, ◌<◌, List, [], ◌∷◌, ◌++◌, drop, get_or}
use Rattle.octets.specs.Octets.{bytes_of}

-- ids that fit two bytes
abbrev pub Ids : List ℕ → Type 0
Ids l = (i : ℕ) → get_or l i 0 < 65536

-- ids one behind the other
unfoldable pub id_bytes : List ℕ → List ℕ
id_bytes [] = []
id_bytes (id ∷ ids) = bytes_of 2 id ++ id_bytes ids

-- the charset of glyphs with these ids
unfoldable pub charset_bytes : List ℕ → List ℕ
charset_bytes ids = 0 ∷ id_bytes (drop 1 ids)

-- how many bytes the charset of n glyphs has
abbrev pub charset_len : ℕ → ℕ
charset_len n = 1 + 2 * (n - 1)
