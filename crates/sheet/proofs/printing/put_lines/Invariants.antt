-- The invariant: writing the lines that are left gives what writing all of them gives.
use Rattle.std.proofs.Common.{drop, ◌≤◌}
use Rattle.cases.specs.Writing.{WritingOn}
use Rattle.sheet.specs.Sheet.{in_lines}
use Rattle.sheet.proofs.printing.put_lines.Given as goal

abbrev pub invariant-loop-b : goal.invariant-loop-b
invariant-loop-b l = (l.col ≤ 15) × WritingOn l.initial.out (in_lines 0 l.bytes) l.out (in_lines l.col (drop l.b-index l.bytes))
