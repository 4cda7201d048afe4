-- `report::put_rows` meets its contract.
use Rattle.std.proofs.Common.{arith, get_or, rules, ◌*◌, ◌+◌}
use Rattle.cases.specs.ReportLaws.{rows_next, rows_none, row-length, rows-length}
use Rattle.cases.specs.Writing.{on_start, on_turn, on_end}
use Rattle.cases.proofs.report.put_rows.Goals as goal

pub loop-i-init : goal.loop-i-init
loop-i-init c = (search rules, on_start _ _)

pub loop-i-preserved : goal.loop-i-preserved
loop-i-preserved c =
    let a = c.args in
    let e = rows_next a.kinds.now a.counts.now c.loop-i.i c.loop-i-test.true in
    let k = row-length (get_or a.kinds.now c.loop-i.i 0) (get_or a.counts.now (2 * c.loop-i.i) 0) (get_or a.counts.now (2 * c.loop-i.i + 1) 0) in (
      omega (arith, c.put_row.ensures.wrote.behind),
      on_turn c.loop-i.invariant.1 _ _ e (omega (arith, rows-length a.kinds.now a.counts.now 0)) c.put_row.ensures,
    )

pub returns : goal.returns
returns c = on_end c.loop-i.invariant.1 (rows_none c.args.kinds.now c.args.counts.now c.loop-i.i (omega arith))
