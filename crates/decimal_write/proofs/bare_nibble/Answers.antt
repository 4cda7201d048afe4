-- `decimal_write::bare_nibble` meets its contract: each `return` is a place of `bare_text`.
use Rattle.std.proofs.Common.{arith}
use Rattle.decimal_write.specs.TextLaws.{nibble-before, nibble-whole, nibble-point, nibble-behind, nibble-past}
use Rattle.decimal_write.proofs.bare_nibble.Goals as goal

pub returns-then-i-w : goal.returns-then-i-w
returns-then-i-w c = let t = c.args.t.now in (nibble-before t.value t.whole _ t.counted.0 _ c.if-i-w.true c.whole_digit.ensures.0, omega arith)

pub returns-then-down-eq0 : goal.returns-then-down-eq0
returns-then-down-eq0 c = rw (← c.d.view_is) (nibble-whole _ _ _ (rw c.d.view_is c.args.t.now.counted.0) c.if-i-w.false c.if-down-eq0.true, omega arith)

pub returns-then-i-w-2 : goal.returns-then-i-w-2
returns-then-i-w-2 c = rw (← c.d.view_is) (nibble-point _ _ _ (rw c.d.view_is c.args.t.now.counted.0) c.if-down-eq0.false c.if-i-w-2.true, omega arith)

pub returns-then-j-down : goal.returns-then-j-down
returns-then-j-down c = rw (← c.d.view_is) (nibble-behind _ _ _ (rw c.d.view_is c.args.t.now.counted.0) c.if-down-eq0.false _ c.if-i-w.false c.if-i-w-2.false c.if-j-down.true c.scaled_down.ensures, omega arith)

pub returns : goal.returns
returns c = rw (← c.d.view_is) (nibble-past _ _ _ (rw c.d.view_is c.args.t.now.counted.0) c.if-down-eq0.false c.if-i-w.false c.if-i-w-2.false c.if-j-down.false, omega arith)
