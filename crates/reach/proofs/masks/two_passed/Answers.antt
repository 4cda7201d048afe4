-- `reach::masks::two_passed` meets its contract.
use Rattle.std.proofs.Common.{ap, arith, sym, ◌∙◌}
use Rattle.reach.specs.Masks.{two_of}
use Rattle.reach.specs.RowLaws.{rest_all}
use Rattle.reach.specs.MaskLaws.{two_here, two-on, two_end}
use Rattle.reach.proofs.masks.two_passed.Goals as goal

pub loop-i-init : goal.loop-i-init
loop-i-init c = ap (two_of _) (rest_all _)

pub returns-then-clash_at : goal.returns-then-clash_at
returns-then-clash_at c =
    let l = c.loop-i in
    let a = c.args in
    two_here a.rows.now l.i (omega arith) a.body (sym c.clash_at.ensures ∙ c.if-clash_at.true) ∙ l.invariant

pub loop-i-preserved : goal.loop-i-preserved
loop-i-preserved c =
    let l = c.loop-i in
    let a = c.args in
    two-on a.rows.now l.i (omega arith) a.body (sym c.clash_at.ensures ∙ c.if-clash_at.false) ∙ l.invariant

pub returns : goal.returns
returns c =
    let l = c.loop-i in
    let a = c.args in
    two_end a.rows.now l.i (omega arith) a.body ∙ l.invariant
