-- The invariant: counting the lines that are left gives what counting all of them gives.
use Rattle.std.proofs.Common.{length, ◌*◌, ◌+◌, ◌≤◌}
use Rattle.std.specs.Iterator.Adapters.{enumerate_count, enumerate_source}
use Rattle.cases.specs.Lines.{agrees}
use Rattle.cases.specs.LinesLeft.{lines_left}
use Rattle.cases.specs.TallyLaws.{Replaying}
use Rattle.replay.specs.Answers.{answer_to}
use Rattle.replay.proofs.lines.replay.Given as goal

abbrev pub invariant-loop-i : goal.invariant-loop-i
invariant-loop-i l = (2 * length l.kinds + 2 ≤ length l.counts)
    × Replaying (agrees answer_to) l.kinds l.text l.initial.counts l.counts (lines_left (enumerate_source l.i-iterator)) (enumerate_count l.i-iterator) l.first
