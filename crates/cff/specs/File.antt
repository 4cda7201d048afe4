-- A font in a file (document 02, Wish 9): where its table stands, and that the positions of the font count from there. A bare font is its own
-- table, from 0.
use Rattle.std.specs.Prelude.{ℕ, ◌≡◌, List, Result, Ok, Err}
use Rattle.octets.specs.Lists.{part_of}
use Rattle.opentype.specs.Opentype.{place_of, table_lying}
use Rattle.cff.specs.Font.{read_font}
use Rattle.cff.specs.Reads.{program_of, GoodFont}
use Rattle.cff.specs.declared.font.Font.{Font}
use Rattle.refusal.specs.declared.Refusal.{Refusal}

-- the bytes of its table
abbrev pub table_in : List ℕ → Font → List ℕ
table_in file f = part_of file f.start f.len

-- the font was read in the file, and b are the bytes of its table
pub record InFile (file : List ℕ) (f : Font) (b : List ℕ) : Type 0 where
  pub place : place_of file ≡ table_lying f.start f.len
  pub bytes : b ≡ table_in file f
  pub good : GoodFont b f
  pub is : read_font file ≡ Ok (program_of b f)

abbrev pub HasFont : List ℕ → Font → Type 0
HasFont file f = InFile file f (table_in file f)

-- what reading a file answers
abbrev pub ReadsFile : List ℕ → Result Font Refusal → Type 0
ReadsFile file (Err n) = read_font file ≡ Err n
ReadsFile file (Ok f) = HasFont file f
