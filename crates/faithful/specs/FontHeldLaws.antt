-- What holds of a font that was read in a file.
use Rattle.std.specs.Prelude.{ℕ, List}
use Rattle.octets.specs.Octets.{Octets}
use Rattle.cff.specs.Reads.{program_of}
use Rattle.cff.specs.File.{InFile}
use Rattle.cff.specs.FileLaws.{table-short}
use Rattle.cff.specs.declared.font.Font.{Font}
use Rattle.faithful.specs.GoodLaws.{font-good}
use Rattle.faithful.specs.FontHeld.{FontHeld}

pub font-held : (file : List ℕ) (f : Font) (b : List ℕ) → Octets file → InFile file f b → FontHeld b f
font-held file f b octets held = record { font = held.good; size = table-short file f b held; program = font-good file (program_of b f) octets held.is }
