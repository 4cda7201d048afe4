-- The header of a font (TN5176, section 6): its major version in the first byte, its size in the third.
use Rattle.std.specs.Prelude.{ℕ, List, get_or}
use Rattle.reader.specs.declared.Header.{Header}

-- what the header that these bytes begin with says
abbrev pub header_of : List ℕ → Header
header_of b = record { major = get_or b 0 0; size = get_or b 2 0 }
