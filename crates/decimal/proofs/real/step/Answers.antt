-- `decimal::real::step` meets its contract: each arm of the match is a case of `step_of`.
use Rattle.decimal.specs.StageLaws.{exponent-plus}
use Rattle.decimal.proofs.real.step.Goals as goal

pub returns-else-x-eq14-2 : goal.returns-else-x-eq14-2
returns-else-x-eq14-2 c = let a = c.args in exponent-plus a.stage a.x _ _ c.in-Exponent.is c.if-x-eq14-2.false c.exponent_step.ensures
