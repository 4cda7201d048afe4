-- `decimal::real::parse_real` meets its contract.
use Rattle.std.proofs.Common.{refl}
use Rattle.decimal.specs.RunLaws.{running_start, running_over, running_stopped, low_stopped, high_end, high_wrong, low_end, low_wrong, running_on}
use Rattle.decimal.proofs.real.parse_real.Goals as goal

pub loop-p-init : goal.loop-p-init
loop-p-init c = running_start _ _ c.requires

pub returns-then-high-eq15 : goal.returns-then-high-eq15
returns-then-high-eq15 c = let a = c.args in let l = c.loop-p in let t = c.loop-p-test.true in high_end a.d.now a.at l.p l.stage l.invariant t _ refl c.if-high-eq15.true _ c.ended.ensures

pub returns-then-high-eq13 : goal.returns-then-high-eq13
returns-then-high-eq13 c = let a = c.args in let l = c.loop-p in let t = c.loop-p-test.true in high_wrong a.d.now a.at l.p l.stage l.invariant t _ refl c.if-high-eq13.true

pub returns-then-low-eq15 : goal.returns-then-low-eq15
returns-then-low-eq15 c = let a = c.args in let l = c.loop-p in let t = c.loop-p-test.true in low_end a.d.now a.at l.p l.stage l.invariant t _ refl c.if-high-eq15.false c.if-high-eq13.false _ c.step-stage.ensures c.if-low-eq15.true _ c.ended-then-low-eq15.ensures

pub returns-then-low-eq13 : goal.returns-then-low-eq13
returns-then-low-eq13 c = let a = c.args in let l = c.loop-p in let t = c.loop-p-test.true in low_wrong a.d.now a.at l.p l.stage l.invariant t _ refl c.if-high-eq15.false c.if-high-eq13.false _ c.step-stage.ensures c.if-low-eq13.true

pub loop-p-preserved : goal.loop-p-preserved
loop-p-preserved c = let a = c.args in let l = c.loop-p in let t = c.loop-p-test.true in running_on a.d.now a.at l.p l.stage l.invariant t _ refl c.if-high-eq15.false c.if-high-eq13.false _ c.step-stage.ensures c.if-low-eq15.false c.if-low-eq13.false _ c.step-stage-in-loop-p.ensures

pub returns : goal.returns
returns c = let a = c.args in let l = c.loop-p in running_over a.d.now a.at l.p l.stage l.invariant c.loop-p-test.false

pub ended-requires : goal.ended-requires
ended-requires c = running_stopped _ _ _ _ c.loop-p.invariant

pub ended-requires-then-low-eq15 : goal.ended-requires-then-low-eq15
ended-requires-then-low-eq15 c = let a = c.args in let l = c.loop-p in low_stopped a.d.now a.at l.p l.stage l.invariant c.loop-p-test.true _ refl c.if-high-eq15.false c.if-high-eq13.false _ c.step-stage.ensures
