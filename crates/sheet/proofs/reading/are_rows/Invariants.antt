-- The invariant: the lines that are left decide, behind the rows so far.
use Rattle.std.proofs.Common.{◌≡◌, Some}
use Rattle.cases.specs.Lines.{lines_of}
use Rattle.cases.specs.LinesLeft.{lines_left}
use Rattle.sheet.specs.Reading.{rows_follow}
use Rattle.sheet.proofs.reading.are_rows.Given as goal

abbrev pub invariant-loop-line : goal.invariant-loop-line
invariant-loop-line l = rows_follow (Some l.rows) (lines_left l.line-iterator) ≡ rows_follow (Some 0) (lines_of l.text)
