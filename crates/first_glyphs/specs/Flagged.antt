-- The flagged glyphs, by their numbers.
use Rattle.std.specs.Prelude.{ℕ, List}
use Rattle.bits.specs.Bits.{bit_in}
use Rattle.subset.specs.Kept.{those}
use Rattle.first_glyphs.specs.declared.flagged.Flagged.{Flagged}

abbrev pub flagged_of : Flagged → List ℕ
flagged_of f = those (bit_in f.flags.now 0) f.glyphs.n 0
