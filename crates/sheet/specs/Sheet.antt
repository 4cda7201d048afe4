-- Document 01, 'One sheet, whole': what the program `cut` reads and what it prints.
-- Lines of lower-case hexadecimal: font (up to 16,384 bytes), new name (up to 256), kept numbers (4 digits each, up to 1,024), flag (2 digits), then
-- one row a line (up to 512). The lines are known by their places: those of font, name and kept numbers may be empty, and only rows may be absent.
-- An empty row adds nothing and does not count; any other has 20 digits. The last line feed may be missing.
use Rattle.std.specs.Prelude.{ℕ, ◌+◌, ◌*◌, ◌%◌, Bool, true, false, List, [], ◌∷◌, ◌++◌, leb, eqb, length, get_or, None, Option, Some, Result, Ok, Err}
use Rattle.octets.specs.Pick.{pick}
use Rattle.octets.specs.Octets.{bytes_of}
use Rattle.refusal.specs.Refusal.{number_of}
use Rattle.refusal.specs.declared.Refusal.{Refusal}
use Rattle.hexlines.specs.Hexlines.{is_hex_lem, spelt, hex_text}
use Rattle.cases.specs.Lines.{lines_of}
use Rattle.dict.specs.Lookup.{cid_keyed}
use Rattle.cff.specs.Font.{Program, read_font}
use Rattle.subset.specs.Cut.{Outcome, refused, subset, cut_of}
use Rattle.subset.specs.Way.{way_number}

-- ---- what is read

-- a font, a new name, kept numbers, a record and a flag
pub record Sheet : Type 0 where
  pub font : List ℕ
  pub name : List ℕ
  pub keep : List ℕ
  pub rec : List ℕ
  pub flag : ℕ

-- hexadecimal of up to n bytes
unfoldable pub hex_up_to : ℕ → List ℕ → Bool
hex_up_to n line = pick (leb (length line) (2 * n)) (is_hex_lem line) false

-- numbers of 4 digits each, up to 1,024
unfoldable pub is_kept : List ℕ → Bool
is_kept line = pick (eqb (length line % 4) 0) (hex_up_to 2048 line) false

-- hexadecimal of n digits
unfoldable pub hex_of : ℕ → List ℕ → Bool
hex_of n line = pick (eqb (length line) n) (is_hex_lem line) false

unfoldable pub all_rows : List (List ℕ) → Bool
all_rows [] = true
all_rows (l ∷ ls) = pick (hex_of 20 l) (all_rows ls) false

-- the lines that are not empty
unfoldable pub filled : List (List ℕ) → List (List ℕ)
filled [] = []
filled ([] ∷ ls) = filled ls
filled ((x ∷ l) ∷ ls) = (x ∷ l) ∷ filled ls

-- up to 512 rows, each of 20 digits
unfoldable pub are_rows : List (List ℕ) → Bool
are_rows ls = pick (leb (length ls) 512) (all_rows ls) false

-- the bytes of all rows
unfoldable pub row_bytes : List (List ℕ) → List ℕ
row_bytes [] = []
row_bytes (l ∷ ls) = spelt l ++ row_bytes ls

-- big-endian numbers of two bytes
unfoldable pub pairs : List ℕ → List ℕ
pairs [] = []
pairs (a ∷ []) = []
pairs (a ∷ (b ∷ bs)) = (a * 256 + b) ∷ pairs bs

-- what the lines of a sheet hold
abbrev pub sheet_with : List ℕ → List ℕ → List ℕ → List ℕ → List (List ℕ) → Sheet
sheet_with font name keep flag rows =
    record { font = spelt font; name = spelt name; keep = pairs (spelt keep); rec = row_bytes rows; flag = get_or (spelt flag) 0 0 }

-- are these the lines of a sheet?
unfoldable pub is_sheet_lem : List ℕ → List ℕ → List ℕ → List ℕ → List (List ℕ) → Bool
is_sheet_lem font name keep flag rows =
    pick (hex_up_to 16384 font)
    (pick (hex_up_to 256 name)
    (pick (is_kept keep)
    (pick (hex_of 2 flag) (are_rows rows) false) false) false) false

-- the sheet of a list of lines; none for any other
unfoldable pub sheet_in : List (List ℕ) → Option Sheet
sheet_in [] = None
sheet_in (font ∷ []) = None
sheet_in (font ∷ (name ∷ [])) = None
sheet_in (font ∷ (name ∷ (keep ∷ []))) = None
sheet_in (font ∷ (name ∷ (keep ∷ (flag ∷ rows)))) =
    pick (is_sheet_lem font name keep flag (filled rows)) (Some (sheet_with font name keep flag (filled rows))) None

-- the sheet that a text holds
unfoldable pub sheet_of : List ℕ → Option Sheet
sheet_of text = sheet_in (lines_of text)

-- ---- what is printed

-- 16 bytes a line, where col bytes stand in the line begun
unfoldable pub in_lines : ℕ → List ℕ → List ℕ
in_lines col [] = pick (eqb col 0) [] (10 ∷ [])
in_lines col (b ∷ bs) = hex_text (b ∷ []) ++ pick (eqb col 15) (10 ∷ in_lines 0 bs) (in_lines (col + 1) bs)

-- `ff` and the number of a refusal, or 0
abbrev pub refusal_line : ℕ → List ℕ
refusal_line n = hex_text (255 ∷ n ∷ []) ++ (10 ∷ [])

-- the number of a way, or any other (2 digits), and the length (8), then the bytes
abbrev pub subset_lines : ℕ → List ℕ → List ℕ
subset_lines way bs = hex_text (way ∷ bytes_of 4 (length bs)) ++ (10 ∷ in_lines 0 bs)

-- a refusal, by its number; else the subset, by the number of its way
unfoldable pub printed : Outcome → List ℕ
printed (refused n) = refusal_line (number_of n)
printed (subset way bs) = subset_lines (way_number way) bs

-- ---- the program

-- the keying of a font; a font refused by reading counts as name-keyed
abbrev pub keying : Result Program Refusal → Bool
keying (Err n) = false
keying (Ok p) = cid_keyed p.top

-- a sheet, cut by the keying of its font, with 8,192 work words and 32,768 output bytes lent
unfoldable pub cut_of_sheet : Sheet → Outcome
cut_of_sheet s = cut_of (keying (read_font s.font)) false s.font s.name s.keep s.rec s.flag 8192 32768

-- `ff00` for other input
unfoldable pub answer_to : Option Sheet → List ℕ
answer_to None = refusal_line 0
answer_to (Some s) = printed (cut_of_sheet s)

-- what the program prints of what it reads
unfoldable pub cut_sheet : List ℕ → List ℕ
cut_sheet text = answer_to (sheet_of text)
