-- `decimal_write::put_int` meets its contract: each branch writes the bytes of its form.
use Rattle.std.proofs.Common.{arith}
use Rattle.octets.specs.OutLaws.{writes_as}
use Rattle.decimal_write.specs.IntLaws.{length-one, length_two, length-neg, length_pos, length-below, length_above, one-neg, one_pos, two-neg, two_pos, three-neg, three_pos, five_neg, five_pos}
use Rattle.decimal_write.proofs.put_int.Goals as goal

pub byte-requires : goal.byte-requires
byte-requires c = let a = c.args in omega (arith, length-one a.neg a.size (omega arith))

pub returns-then-neg : goal.returns-then-neg
returns-then-neg c = let a = c.args in writes_as c.byte.ensures (one-neg a.neg a.size c.if-neg.true (omega arith))

pub byte-requires-then-size-le107 : goal.byte-requires-then-size-le107
byte-requires-then-size-le107 c = let a = c.args in omega (arith, length-one a.neg a.size (omega arith))

pub returns-then-size-le107 : goal.returns-then-size-le107
returns-then-size-le107 c = let a = c.args in writes_as c.byte-then-size-le107.ensures (one_pos a.neg a.size c.if-neg.false (omega arith))

pub pair-requires : goal.pair-requires
pair-requires c = let a = c.args in omega (arith, length_two a.neg a.size (omega arith) (omega arith))

pub returns-then-neg-2 : goal.returns-then-neg-2
returns-then-neg-2 c = let a = c.args in writes_as c.pair.ensures (two-neg a.neg a.size c.if-neg-2.true (omega arith) (omega arith))

pub pair-requires-then-size-le1131 : goal.pair-requires-then-size-le1131
pair-requires-then-size-le1131 c = let a = c.args in omega (arith, length_two a.neg a.size (omega arith) (omega arith))

pub returns-then-size-le1131 : goal.returns-then-size-le1131
returns-then-size-le1131 c = let a = c.args in writes_as c.pair-then-size-le1131.ensures (two_pos a.neg a.size c.if-neg-2.false (omega arith) (omega arith))

pub put_tagged-requires : goal.put_tagged-requires
put_tagged-requires c = let a = c.args in omega (arith, length-neg a.neg a.size c.if-neg-3.true (omega arith) (omega arith))

pub returns-then-size-le32768 : goal.returns-then-size-le32768
returns-then-size-le32768 c = let a = c.args in writes_as c.put_tagged.ensures (three-neg a.neg a.size c.if-neg-3.true (omega arith) (omega arith))

pub put_int5-requires : goal.put_int5-requires
put_int5-requires c = let a = c.args in (c.requires.0, omega (arith, length-below a.neg a.size c.if-neg-3.true (omega arith) (omega arith)))

pub returns-then-neg-3 : goal.returns-then-neg-3
returns-then-neg-3 c = let a = c.args in writes_as c.put_int5.ensures (five_neg a.neg a.size c.if-neg-3.true (omega arith) (omega arith))

pub put_tagged-requires-then-size-le32767 : goal.put_tagged-requires-then-size-le32767
put_tagged-requires-then-size-le32767 c = let a = c.args in omega (arith, length_pos a.neg a.size c.if-neg-3.false (omega arith) (omega arith))

pub returns-then-size-le32767 : goal.returns-then-size-le32767
returns-then-size-le32767 c = let a = c.args in writes_as c.put_tagged-then-size-le32767.ensures (three_pos a.neg a.size c.if-neg-3.false (omega arith) (omega arith))

pub put_int5-requires-2 : goal.put_int5-requires-2
put_int5-requires-2 c = let a = c.args in (c.requires.0, omega (arith, length_above a.neg a.size c.if-neg-3.false (omega arith) (omega arith)))

pub returns : goal.returns
returns c = let a = c.args in writes_as c.put_int5-2.ensures (five_pos a.neg a.size c.if-neg-3.false (omega arith) (omega arith))
