-- `report::put_first` meets its contract: each way out is a case of `first_bytes`.
use Rattle.std.proofs.Common.{arith, ap, sym}
use Rattle.octets.specs.OutLaws.{writes_then, writes_as}
use Rattle.cases.specs.Report.{first_word, first_bytes}
use Rattle.cases.specs.ReportLaws.{word-length}
use Rattle.cases.proofs.report.put_first.Goals as goal

pub returns-in-None : goal.returns-in-None
unfolding first_bytes
returns-in-None c = writes_as c.copy.ensures (ap first_bytes (sym c.in-None.is))

pub byte-requires : goal.byte-requires
byte-requires c = omega (arith, word-length first_word c.in-Some.line, c.put_count.ensures.wrote.behind, c.put_count.ensures.size)

pub returns-in-Some : goal.returns-in-Some
unfolding first_bytes
returns-in-Some c = writes_as (writes_then (omega arith) c.put_count.ensures c.byte.ensures) (ap first_bytes (sym c.in-Some.is))
