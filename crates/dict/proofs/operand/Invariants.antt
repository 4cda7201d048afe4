use Rattle.std.proofs.Common.{length, ◌-◌}
use Rattle.dict.proofs.LookupLaws.{Skipping}
use Rattle.dict.proofs.operand.Given as goal

abbrev pub invariant-loop-at : goal.invariant-loop-at
invariant-loop-at l = Skipping l.d l.start l.k l.at l.left

abbrev pub decreases-loop-at : goal.decreases-loop-at
decreases-loop-at l = length l.d - l.at
