-- `report::put_row` meets its contract: one write after the other.
use Rattle.std.proofs.Common.{arith}
use Rattle.octets.specs.OutLaws.{writes_then}
use Rattle.cases.specs.Report.{row_bytes}
use Rattle.cases.specs.ReportLaws.{tally-length}
use Rattle.cases.proofs.report.put_row.Goals as goal

pub byte-requires-2 : goal.byte-requires-2
byte-requires-2 c = let a = c.args in omega (arith, tally-length a.agreed a.failed, c.put_tally.ensures.wrote.behind, c.put_tally.ensures.size, c.byte.ensures.wrote.behind, c.byte.ensures.size)

pub returns : goal.returns
unfolding row_bytes
returns c = writes_then (omega arith) (writes_then (omega arith) c.byte.ensures c.put_tally.ensures) c.byte-2.ensures
