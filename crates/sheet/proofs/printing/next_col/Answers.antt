-- `printing::next_col` meets its contract: a case of `next_col` each.
use Rattle.std.proofs.Common.{arith}
use Rattle.sheet.specs.Printing.{col_last, col_inner}
use Rattle.sheet.proofs.printing.next_col.Goals as goal

pub returns-then-col-eq15 : goal.returns-then-col-eq15
returns-then-col-eq15 c = (col_last _ c.if-col-eq15.true, omega arith)

pub returns : goal.returns
returns c = (col_inner _ c.if-col-eq15.false, omega arith)
