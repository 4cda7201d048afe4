-- `report::put_count` meets its contract: one write after the other.
use Rattle.std.proofs.Common.{arith}
use Rattle.octets.specs.OutLaws.{writes_then}
use Rattle.cases.specs.Report.{word_bytes}
use Rattle.cases.proofs.report.put_count.Goals as goal

pub returns : goal.returns
unfolding word_bytes
returns c = writes_then (omega arith) c.copy.ensures c.put_decimal.ensures
