-- `decimal_write::whole_width` meets its contract: zeros behind add to the width, and a fraction is dropped first.
use Rattle.std.proofs.Common.{arith}
use Rattle.decimal_write.specs.TextLaws.{whole-up, whole-down}
use Rattle.decimal_write.proofs.whole_width.Goals as goal

pub returns-then-down-eq0 : goal.returns-then-down-eq0
returns-then-down-eq0 c = rw (← c.d.view_is) (whole-up _ c.d.invariant _ c.if-down-eq0.true c.width_of.ensures.0, omega (arith, c.d.invariant.high, c.width_of.ensures.1))

pub returns : goal.returns
returns c = rw (← c.d.view_is) (whole-down _ c.d.invariant _ _ c.if-down-eq0.false c.scaled_down.ensures c.width_of-2.ensures.0, omega (arith, c.width_of-2.ensures.1))
