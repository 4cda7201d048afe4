-- The invariant: the counts of the FDs of the glyphs before g are put, and with those that are left they are all.
use Rattle.checker.specs.NumberLaws.{Limiting}
use Rattle.checker.proofs.numbers.put_limits.Given as goal

abbrev pub invariant-loop-g : goal.invariant-loop-g
invariant-loop-g l = Limiting l.glyphs l.limits l.g
