-- The invariant: no flag is set from the end on.
use Rattle.found.specs.Flags.{Unset}
use Rattle.found.proofs.flags_end.Given as goal

abbrev pub invariant-loop-g : goal.invariant-loop-g
invariant-loop-g l = Unset l.flagged.flags.now l.g l.flagged.glyphs.n
