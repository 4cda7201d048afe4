-- `charstring::operand::number_named` meets its contract: the tests of `numbered`, with the sign and the size of the count.
use Rattle.std.proofs.Common.{arith}
use Rattle.charstring.specs.Bias.{bias_of}
use Rattle.charstring.specs.BiasLaws.{bias_few, number-fraction, number-down, number_up}
use Rattle.charstring.proofs.operand.number_named.Goals as goal

pub returns-then-size-ne0 : goal.returns-then-size-ne0
returns-then-size-ne0 c = let a = c.args in number-fraction (bias_of a.count) a.v _ c.count_of-s.ensures.1 c.if-size-ne0.true

pub returns-then-neg : goal.returns-then-neg
returns-then-neg c = let a = c.args in number-down (bias_of a.count) a.v _ c.count_of-s.ensures.1 _ c.count_of-s.ensures.0 c.if-size-ne0.false _ c.bias-added.ensures c.if-neg.true _ c.checked_sub.ensures

pub overflow_add-result : goal.overflow_add-result
overflow_add-result c = let b = bias_few _ c.args.count c.bias-added.ensures in omega (arith, c.count_of-s.ensures.2)

pub returns : goal.returns
returns c = let a = c.args in number_up (bias_of a.count) a.v _ c.count_of-s.ensures.1 _ c.count_of-s.ensures.0 c.if-size-ne0.false _ c.bias-added.ensures c.if-neg.false
