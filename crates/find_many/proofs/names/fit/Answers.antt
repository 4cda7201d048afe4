-- `names::fit` meets its contract.
use Rattle.std.proofs.Common.{refl, sym, ◌∙◌}
use Rattle.find_many.specs.ManyLaws.{fit_short, fit_next, fit_all}
use Rattle.find_many.proofs.names.fit.Goals as goal

pub returns-then-left-n : goal.returns-then-left-n
returns-then-left-n c =
    let l = c.loop-len in
    fit_short c.args.lens.now l.len-index l.left _ c.loop-len-test.true refl c.if-left-n.true ∙ sym l.invariant

pub loop-len-preserved : goal.loop-len-preserved
loop-len-preserved c =
    let l = c.loop-len in
    l.invariant ∙ fit_next c.args.lens.now l.len-index l.left _ c.loop-len-test.true refl c.if-left-n.false

pub returns : goal.returns
returns c = let l = c.loop-len in sym (l.invariant ∙ fit_all c.args.lens.now l.len-index l.left c.loop-len-test.false)
