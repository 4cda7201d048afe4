-- `type2_number::read_number` meets its contract: each `return` is a case of `number_at`.
use Rattle.std.proofs.Common.{arith}
use Rattle.type2_number.specs.NumberLaws.{cut_28, got_28, got_op, got_1, cut_5, got_ff}
use Rattle.type2_number.proofs.read_number.Goals as goal

pub returns-then-left-lt3 : goal.returns-then-left-lt3
returns-then-left-lt3 c = cut_28 _ _ _ c.from-v.ensures (omega arith) (omega arith)

pub returns-then-v-eq28 : goal.returns-then-v-eq28
returns-then-v-eq28 c = got_28 _ _ _ c.from-v.ensures (omega arith) (omega arith) _ c.sixteen.ensures

pub returns-then-v-lt32 : goal.returns-then-v-lt32
returns-then-v-lt32 c = got_op _ _ _ c.from-v.ensures (omega arith) c.if-v-eq28.false

pub returns-then-v-lt247 : goal.returns-then-v-lt247
returns-then-v-lt247 c = got_1 _ _ _ c.from-v.ensures (omega arith) (omega arith) _ c.whole.ensures

pub returns-then-left-lt5 : goal.returns-then-left-lt5
returns-then-left-lt5 c = cut_5 _ _ _ c.from-v.ensures (omega arith) (omega arith)

pub returns : goal.returns
returns c = got_ff _ _ _ _ _ c.from-v.ensures (omega arith) (omega arith) c.pair.ensures.0 c.pair-2.ensures.0 _ c.fixed_operand.ensures
