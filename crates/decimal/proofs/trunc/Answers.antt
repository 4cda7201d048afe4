-- `decimal::trunc` meets its contract: a decimal that has a power below has none above, so one scaling is enough.
use Rattle.decimal.specs.ValuesLaws.{trunc-up, trunc-down, trunc_far}
use Rattle.decimal.proofs.trunc.Goals as goal

pub returns-then-down-eq0 : goal.returns-then-down-eq0
returns-then-down-eq0 c = rw (← c.d.view_is) (trunc-up _ _ c.if-down-eq0.true c.scaled_up.ensures)

pub returns-then-n-lt-FAR : goal.returns-then-n-lt-FAR
returns-then-n-lt-FAR c = rw (← c.d.view_is) (trunc-down _ c.d.invariant c.if-down-eq0.false _ c.scaled_down-n.ensures c.if-n-lt-FAR.true)

pub returns : goal.returns
returns c = rw (← c.d.view_is) (trunc_far _ c.d.invariant c.if-down-eq0.false _ c.scaled_down-n.ensures c.if-n-lt-FAR.false)
