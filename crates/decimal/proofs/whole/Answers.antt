-- `decimal::whole` meets its contract.
use Rattle.std.proofs.Common.{arith}
use Rattle.decimal.specs.DecimalLaws.{whole-step, whole_done, whole-nought, whole-reduced}
use Rattle.decimal.proofs.whole.Goals as goal

pub returns-then-n-eq0 : goal.returns-then-n-eq0
returns-then-n-eq0 c = whole-nought _ _ c.if-n-eq0.true

pub loop-digits-preserved : goal.loop-digits-preserved
loop-digits-preserved c = let l = c.loop-digits in (omega arith, omega arith, whole-step l.digits l.up _ l.invariant.2 c.loop-digits-test.true)

pub returns : goal.returns
returns c = let l = c.loop-digits in whole_done _ l.digits l.up _ l.invariant.2 c.loop-digits-test.false

pub invariant_of-result-2 : goal.invariant_of-result-2
invariant_of-result-2 c = let l = c.loop-digits in whole-reduced _ l.digits l.up _ l.invariant.0 l.invariant.2 c.ranges.n.fits c.loop-digits-test.false
