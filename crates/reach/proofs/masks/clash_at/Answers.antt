-- `reach::masks::clash_at` meets its contract, test by test.
use Rattle.std.proofs.Common.{ne_eqb, sym, ◌∙◌}
use Rattle.reach.specs.Reach.{row_in}
use Rattle.reach.specs.MaskLaws.{clash_here, clash_not}
use Rattle.reach.proofs.masks.clash_at.Goals as goal

pub returns-then-body_of-body : goal.returns-then-body_of-body
returns-then-body_of-body c =
    let r = c.row_at-r in
    let a = c.args in
    clash_here a.rows.now a.i a.body (row_in r.result) r.ensures (sym c.body_of.ensures ∙ c.if-body_of-body.true) _ c.key_of.ensures _ c.other_len.ensures

pub returns-else-body_of-body : goal.returns-else-body_of-body
returns-else-body_of-body c =
    let r = c.row_at-r in
    let a = c.args in
    ne_eqb _ _ c.if-body_of-body.false ∙ clash_not a.rows.now a.i a.body (row_in r.result) r.ensures (λ e. c.if-body_of-body.false (c.body_of.ensures ∙ e))
