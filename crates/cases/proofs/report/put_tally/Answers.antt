-- `report::put_tally` meets its contract: one write after the other.
use Rattle.std.proofs.Common.{arith, rules}
use Rattle.octets.specs.OutLaws.{writes_then}
use Rattle.cases.specs.Report.{agreed_word, tally_bytes}
use Rattle.cases.specs.ReportLaws.{word-length}
use Rattle.cases.proofs.report.put_tally.Goals as goal

pub put_count-requires-2 : goal.put_count-requires-2
put_count-requires-2 c = (search rules, omega (arith, word-length agreed_word c.args.agreed, c.put_count.ensures.wrote.behind, c.put_count.ensures.size))

pub returns : goal.returns
unfolding tally_bytes
returns c = writes_then (omega arith) c.put_count.ensures c.put_count-2.ensures
