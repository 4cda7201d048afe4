-- `report::put_report` meets its contract: the rows and then the last line, which have room.
use Rattle.std.proofs.Common.{arith, rules}
use Rattle.octets.specs.OutLaws.{writes_then, writes_lent}
use Rattle.cases.specs.Report.{report_bytes}
use Rattle.cases.specs.ReportLaws.{rows-length, other_length, report_length, wrote_counts}
use Rattle.cases.proofs.report.put_report.Goals as goal

pub put_other-requires : goal.put_other-requires
put_other-requires c = (search rules, omega (arith, rows-length c.args.kinds.now c.args.counts.now 0, c.put_rows.ensures.wrote.behind, c.put_rows.ensures.size))

pub put_first-requires : goal.put_first-requires
put_first-requires c = omega (arith, rows-length c.args.kinds.now c.args.counts.now 0, other_length c.args.kinds.now c.args.counts.now, c.put_rows.ensures.wrote.behind, c.put_rows.ensures.size, c.put_other.ensures.wrote.behind, c.put_other.ensures.size)

pub returns : goal.returns
unfolding report_bytes
returns c =
    let w = writes_lent (writes_then (omega arith) (writes_then (omega arith) c.put_rows.ensures c.put_other.ensures) c.put_first.ensures) (search rules) in
    (w, wrote_counts w (omega (arith, report_length c.args.kinds.now c.args.counts.now c.args.first c.requires.0)))
