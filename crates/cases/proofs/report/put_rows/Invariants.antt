-- The invariant: writing the rows that are left gives what writing all of them gives.
use Rattle.std.proofs.Common.{◌*◌, ◌+◌, ◌≤◌}
use Rattle.cases.specs.ReportLaws.{rows_left}
use Rattle.cases.specs.Writing.{WritingOn}
use Rattle.cases.proofs.report.put_rows.Given as goal

abbrev pub invariant-loop-i : goal.invariant-loop-i
invariant-loop-i l = (l.out.at ≤ l.initial.out.at + 58 * l.i) × WritingOn l.initial.out (rows_left l.kinds l.counts 0) l.out (rows_left l.kinds l.counts l.i)
