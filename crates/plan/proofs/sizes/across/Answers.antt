-- `plan::sizes::across` meets its contract.
use Rattle.std.proofs.Common.{arith, refl}
use Rattle.fds.specs.UsedLaws.{not_used, is_used}
use Rattle.plan.specs.AcrossLaws.{counting-start, counting-pass, counting-take, counted-one, counted_other}
use Rattle.plan.proofs.sizes.across.Goals as goal
use Rattle.plan.proofs.sizes.across.Goals.{then-used-fd-ne0, else-used-fd-ne0}

pub loop-fd-init : goal.loop-fd-init
loop-fd-init c = counting-start _

pub loop-fd-preserved : goal.loop-fd-preserved
loop-fd-preserved c =
    elim c.if-used-fd-ne0.branch [
      | then-used-fd-ne0 w ↦ rw (w.count-is, w.last-is) (counting-take _ _ _ _ c.loop-fd.invariant c.loop-fd-test.true (is_used c.args.used.now c.loop-fd.fd w.if-used-fd-ne0.true))
      | else-used-fd-ne0 w ↦ rw (w.count-is, w.last-is) (counting-pass _ _ _ _ c.loop-fd.invariant c.loop-fd-test.true (not_used c.args.used.now c.loop-fd.fd w.if-used-fd-ne0.false))
    ]

pub returns-then-count-eq1 : goal.returns-then-count-eq1
returns-then-count-eq1 c =
    counted-one _ _ _ _ _ c.loop-fd.invariant (omega (arith, c.loop-fd-test.false)) c.if-count-eq1.true _ refl

pub returns : goal.returns
returns c =
    counted_other _ _ _ _ _ c.loop-fd.invariant (omega (arith, c.loop-fd-test.false)) c.if-count-eq1.false
