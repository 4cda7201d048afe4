-- `reach::masks::other_len` meets its contract.
use Rattle.std.proofs.Common.{ap, arith, sym, ◌∙◌}
use Rattle.reach.specs.Masks.{clashes}
use Rattle.reach.specs.MaskLaws.{other_here, other_on, other_end}
use Rattle.reach.proofs.masks.other_len.Goals as goal

pub returns-then-clashes : goal.returns-then-clashes
returns-then-clashes c =
    let l = c.loop-i in
    let a = c.args in
    let e = sym (ap (clashes a.key a.len) c.row_at.ensures) ∙ sym c.clashes.ensures ∙ c.if-clashes.true in
    other_here a.rows.now l.i (omega arith) a.key a.len e ∙ l.invariant

pub loop-i-preserved : goal.loop-i-preserved
loop-i-preserved c =
    let l = c.loop-i in
    let a = c.args in
    let e = sym (ap (clashes a.key a.len) c.row_at.ensures) ∙ sym c.clashes.ensures ∙ c.if-clashes.false in
    other_on a.rows.now l.i (omega arith) a.key a.len e ∙ l.invariant

pub returns : goal.returns
returns c =
    let l = c.loop-i in
    let a = c.args in
    other_end a.rows.now l.i (omega arith) a.key a.len ∙ l.invariant
