-- `decimal_write::whole_digit` meets its contract: the digits moved up or down by the power.
use Rattle.std.proofs.Common.{arith}
use Rattle.decimal_write.specs.TextLaws.{digit-zero, digit-up, digit-down}
use Rattle.decimal_write.proofs.whole_digit.Goals as goal

pub returns-then-k-up : goal.returns-then-k-up
returns-then-k-up c = rw (← c.d.view_is) (digit-zero _ c.d.invariant _ c.if-down-eq0.true c.if-k-up.true, omega arith)

pub returns-then-down-eq0 : goal.returns-then-down-eq0
returns-then-down-eq0 c = rw (← c.d.view_is) (digit-up _ c.d.invariant _ _ c.if-down-eq0.true c.if-k-up.false c.scaled_down.ensures, omega arith)

pub returns : goal.returns
returns c = rw (← c.d.view_is) (digit-down _ c.d.invariant _ _ c.if-down-eq0.false c.scaled_down-2.ensures, omega arith)
