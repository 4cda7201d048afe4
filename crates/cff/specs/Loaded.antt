-- The program that a loaded font is, and what reading and loading a file answer.
use Rattle.std.specs.Prelude.{ℕ, ◌≡◌, List, Result, Ok, Err}
use Rattle.cff.specs.Font.{Program, read_font}
use Rattle.cff.specs.Reads.{program_of}
use Rattle.cff.specs.File.{InFile}
use Rattle.cff.specs.declared.loaded.Loaded.{Loaded}
use Rattle.cff.specs.declared.opened.Opened.{Opened}
use Rattle.refusal.specs.declared.Refusal.{Refusal}

abbrev pub program : Loaded → Program
program font = program_of font.bytes.now font.f

-- the font of a file, with the file
abbrev pub Opens : List ℕ → Result Opened Refusal → Type 0
Opens file (Err n) = read_font file ≡ Err n
Opens file (Ok font) = font.file.now ≡ file

-- the font of a file, with the bytes of its table
abbrev pub Loads : List ℕ → Result Loaded Refusal → Type 0
Loads file (Err n) = read_font file ≡ Err n
Loads file (Ok font) = InFile file font.f font.bytes.now
