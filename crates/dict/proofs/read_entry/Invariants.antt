use Rattle.std.proofs.Common.{length, ◌-◌}
use Rattle.dict.proofs.WalkLaws.{Counting}
use Rattle.dict.proofs.read_entry.Given as goal

abbrev pub invariant-loop-at : goal.invariant-loop-at
invariant-loop-at l = Counting l.d l.start l.at l.count

abbrev pub decreases-loop-at : goal.decreases-loop-at
decreases-loop-at l = length l.d - l.at
