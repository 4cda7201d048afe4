-- `reach::rows_fine` meets its contract.
use Rattle.std.proofs.Common.{ap, arith, sym, ◌∙◌}
use Rattle.record.specs.Record.{row_fine_lem, rows_fine_lem}
use Rattle.reach.specs.RowLaws.{rest_all, fine_stops, fine_goes_on, fine_done}
use Rattle.reach.proofs.rows_fine.Goals as goal

pub loop-i-init : goal.loop-i-init
loop-i-init c = ap (rows_fine_lem _) (rest_all _)

pub loop-i-preserved : goal.loop-i-preserved
loop-i-preserved c =
    let l = c.loop-i in
    let a = c.args in
    let e = sym (ap (row_fine_lem a.cid) c.row_at.ensures) ∙ sym c.row_fine.ensures ∙ c.if-not-row_fine.false in
    fine_goes_on a.cid a.rows.now l.i (omega arith) e ∙ l.invariant

pub returns-then-not-row_fine : goal.returns-then-not-row_fine
returns-then-not-row_fine c =
    let l = c.loop-i in
    let a = c.args in
    let e = sym (ap (row_fine_lem a.cid) c.row_at.ensures) ∙ sym c.row_fine.ensures ∙ c.if-not-row_fine.true in
    fine_stops a.cid a.rows.now l.i (omega arith) e ∙ l.invariant

pub returns : goal.returns
returns c = let a = c.args in fine_done a.cid a.rows.now c.loop-i.i (omega arith) ∙ c.loop-i.invariant
