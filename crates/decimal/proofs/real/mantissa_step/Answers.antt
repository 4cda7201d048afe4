-- `decimal::real::mantissa_step` meets its contract: each `return` is a case of `mantissa_step`.
use Rattle.decimal.specs.StageLaws.{mantissa-digit}
use Rattle.decimal.proofs.real.mantissa_step.Goals as goal

pub returns-then-x-lt10 : goal.returns-then-x-lt10
returns-then-x-lt10 c s n f e = let a = c.args in mantissa-digit a.any a.point a.held a.x s n f e _ c.if-x-lt10.true (c.digit-more.ensures s n f e)
