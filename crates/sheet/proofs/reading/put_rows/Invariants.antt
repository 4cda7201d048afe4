-- The invariant: writing the rows that are left gives what writing all of them gives.
use Rattle.std.proofs.Common.{length, true, ◌≡◌, ◌≤◌}
use Rattle.cases.specs.Lines.{lines_of}
use Rattle.cases.specs.LinesLeft.{lines_left}
use Rattle.cases.specs.Writing.{Writing}
use Rattle.sheet.specs.Sheet.{all_rows, filled, row_bytes}
use Rattle.sheet.proofs.reading.put_rows.Given as goal

abbrev pub invariant-loop-line : goal.invariant-loop-line
invariant-loop-line l = (all_rows (filled (lines_left l.line-iterator)) ≡ true) × (length (row_bytes (lines_of l.text)) ≤ 5120)
    × Writing l.initial.rec 0 (row_bytes (lines_of l.text)) l.rec l.q (row_bytes (lines_left l.line-iterator))
