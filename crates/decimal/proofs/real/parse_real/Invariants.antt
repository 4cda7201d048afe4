-- The invariant: the nibbles that are left, from the stage reached, give what all of them give.
use Rattle.decimal.specs.Stage.{Running}
use Rattle.decimal.proofs.real.parse_real.Given as goal

abbrev pub invariant-loop-p : goal.invariant-loop-p
invariant-loop-p l = Running l.d l.at l.stage l.p
