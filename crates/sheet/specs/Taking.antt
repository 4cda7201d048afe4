-- Taking a text piece by piece (document 01, 'One sheet, whole': an empty row adds nothing): the line feeds of empty rows are not kept, so a sheet
-- takes up to 48,134 bytes, however many empty rows its text has.
use Rattle.std.specs.Prelude.{ℕ, ◌+◌, ◌≤◌, ◌<◌, ◌≡◌, Bool, false, List, [], ◌∷◌, ◌++◌, ltb, eqb, length, take}
use Rattle.octets.specs.Pick.{pick}

-- Where a byte stands: 0 to 3 in the line of font, name, kept numbers or flag; 4 at the start of a row; 5 within one.

-- where the next byte stands
unfoldable pub next_mode : ℕ → ℕ → ℕ
next_mode mode b = pick (eqb b 10) (pick (ltb mode 4) (mode + 1) 4) (pick (eqb mode 4) 5 mode)

-- does a byte end an empty row?
unfoldable pub ends_empty : ℕ → ℕ → Bool
ends_empty mode b = pick (eqb b 10) (eqb mode 4) false

-- what is kept of a byte
unfoldable pub kept_of : ℕ → ℕ → List ℕ
kept_of mode b = pick (ends_empty mode b) [] (b ∷ [])

-- what is kept of a text that begins in a mode
unfoldable pub squeezed : ℕ → List ℕ → List ℕ
squeezed mode [] = []
squeezed mode (b ∷ bs) = kept_of mode b ++ squeezed (next_mode mode b) bs

-- where the byte behind a text stands
unfoldable pub mode_after : ℕ → List ℕ → ℕ
mode_after mode [] = mode
mode_after mode (b ∷ bs) = mode_after (next_mode mode b) bs

-- kept bytes in a buffer: all of them in front, len many; or they are more than 48,134, and len says so
pub data Held (kept : List ℕ) (len : ℕ) (buffer : List ℕ) : Type 0 where
  whole : len ≡ length kept → len ≤ 48134 → take len buffer ≡ kept → Held kept len buffer
  over : len ≡ 48135 → 48134 < length kept → Held kept len buffer

-- a text was taken
pub record Took (text : List ℕ) (len mode : ℕ) (buffer : List ℕ) : Type 0 where
  pub stands : mode ≡ mode_after 0 text
  pub held : Held (squeezed 0 text) len buffer
