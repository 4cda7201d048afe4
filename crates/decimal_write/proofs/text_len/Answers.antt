-- `decimal_write::text_len` meets its contract: the lengths of the parts of `real_text`.
use Rattle.std.proofs.Common.{arith}
use Rattle.decimal_write.specs.TextLaws.{length-whole-neg, length-whole_pos, length-part-neg, length-part_pos}
use Rattle.decimal_write.proofs.text_len.Goals as goal

pub returns-then-neg : goal.returns-then-neg
returns-then-neg c = rw (← c.d.view_is) (length-whole-neg _ _ (rw c.d.view_is c.args.t.now.counted.0) c.if-down-eq0.true c.if-neg.true, omega (arith, c.args.t.now.counted.1))

pub returns-then-down-eq0 : goal.returns-then-down-eq0
returns-then-down-eq0 c = rw (← c.d.view_is) (length-whole_pos _ _ (rw c.d.view_is c.args.t.now.counted.0) c.if-down-eq0.true c.if-neg.false, omega (arith, c.args.t.now.counted.1))

pub returns-then-neg-2 : goal.returns-then-neg-2
returns-then-neg-2 c = rw (← c.d.view_is) (length-part-neg _ _ (rw c.d.view_is c.args.t.now.counted.0) c.if-down-eq0.false c.if-neg-2.true, omega (arith, c.args.t.now.counted.1, c.d.invariant.low))

pub returns : goal.returns
returns c = rw (← c.d.view_is) (length-part_pos _ _ (rw c.d.view_is c.args.t.now.counted.0) c.if-down-eq0.false c.if-neg-2.false, omega (arith, c.args.t.now.counted.1, c.d.invariant.low))
