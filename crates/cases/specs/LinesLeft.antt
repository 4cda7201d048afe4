-- The lines that an iterator has left.
use Rattle.std.specs.Prelude.{ℕ, List}
use Rattle.cases.specs.Lines.{lines_of}
use Rattle.cases.specs.declared.lines.Lines.{Lines}

abbrev pub lines_left : Lines → List (List ℕ)
lines_left x = lines_of x.rest.now
