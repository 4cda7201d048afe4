-- Reading the lines of a sheet (document 01, 'One sheet, whole') in place: what the functions answer.
use Rattle.std.specs.Prelude.{ℕ, ◌+◌, ◌≡◌, Bool, true, false, List, [], ◌∷◌, leb, eqb, length, take, None, Option, Some}
use Rattle.octets.specs.Pick.{pick}
use Rattle.cases.specs.Lines.{lines_of}
use Rattle.sheet.specs.Sheet.{Sheet, hex_of, filled, is_sheet_lem, sheet_with, sheet_of}
use Rattle.sheet.specs.declared.reading.Head.{Head}
use Rattle.sheet.specs.declared.reading.Parts.{Parts}

-- how many rows there are after one more line; none where they are too many, or the line is no row
unfoldable pub rows_after : ℕ → List ℕ → Option ℕ
rows_after k l = pick (eqb (length l) 0) (Some k) (pick (leb 512 k) None (pick (hex_of 20 l) (Some (k + 1)) None))

-- are lines rows, behind so many?
unfoldable pub rows_follow : Option ℕ → List (List ℕ) → Bool
rows_follow None ls = false
rows_follow (Some k) [] = true
rows_follow (Some k) (l ∷ ls) = rows_follow (rows_after k l) ls

-- are the lines of a text those of a sheet?
unfoldable pub is_sheet_at : Head → Bool
is_sheet_at h = is_sheet_lem h.font.now h.name.now h.keep.now h.flag.now (filled (lines_of h.rows.now))

-- the sheet that they hold
unfoldable pub sheet_at : Head → Sheet
sheet_at h = sheet_with h.font.now h.name.now h.keep.now h.flag.now (filled (lines_of h.rows.now))

-- what is said of the first lines of a text
unfoldable pub HeadIs : List ℕ → Option Head → Type 0
HeadIs text None = sheet_of text ≡ None
HeadIs text (Some h) = lines_of text ≡ h.font.now ∷ (h.name.now ∷ (h.keep.now ∷ (h.flag.now ∷ lines_of h.rows.now)))

-- the code's answer, by its numbers
abbrev pub parts : ℕ → ℕ → ℕ → ℕ → ℕ → Parts
parts m n k l flag = record { font = m; name = n; keep = k; rec = l; flag = flag }

-- a sheet stands in the four buffers: so many bytes, numbers and record bytes in front, and the flag
pub record Stands (s : Sheet) (font name keep rec : List ℕ) (r : Option Parts) : Type 0 where
  pub answer : r ≡ Some (parts (length s.font) (length s.name) (length s.keep) (length s.rec) s.flag)
  pub font_is : take (length s.font) font ≡ s.font
  pub name_is : take (length s.name) name ≡ s.name
  pub keep_is : take (length s.keep) keep ≡ s.keep
  pub rec_is : take (length s.rec) rec ≡ s.rec

-- what reading a text answers
unfoldable pub Reads : Option Sheet → List ℕ → List ℕ → List ℕ → List ℕ → Option Parts → Type 0
Reads None font name keep rec r = r ≡ None
Reads (Some s) font name keep rec r = Stands s font name keep rec r
