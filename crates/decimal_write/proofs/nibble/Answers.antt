-- `decimal_write::nibble` meets its contract: the sign, and then the text without it.
use Rattle.std.proofs.Common.{arith}
use Rattle.decimal_write.specs.TextLaws.{nibble-minus, nibble-after, nibble-same}
use Rattle.decimal_write.proofs.nibble.Goals as goal

pub returns-then-i-eq0 : goal.returns-then-i-eq0
returns-then-i-eq0 c = rw (← c.d.view_is) (nibble-minus _ _ c.if-neg.true c.if-i-eq0.true, omega arith)

pub returns-then-neg : goal.returns-then-neg
returns-then-neg c = rw (← c.d.view_is) (nibble-after _ _ _ c.if-neg.true c.if-i-eq0.false (rw c.d.view_is c.bare_nibble.ensures.0), omega arith)

pub returns : goal.returns
returns c = rw (← c.d.view_is) (nibble-same _ _ _ c.if-neg.false (rw c.d.view_is c.bare_nibble-2.ensures.0), omega arith)
