use Rattle.std.proofs.Common.{false, length, ◌-◌}
use Rattle.renumber.specs.Turn.{cursor}
use Rattle.renumber.specs.RunLaws.{Running, run_of}
use Rattle.renumber.proofs.runs.plain_run.Given as goal

abbrev pub invariant-loop-at : goal.invariant-loop-at
invariant-loop-at l = Running l.code (cursor l.from l.args-2 l.stems-2 false) (run_of l.at l.last l.args l.stems)

abbrev pub decreases-loop-at : goal.decreases-loop-at
decreases-loop-at l = length l.code - l.at
