-- `renumber::runs::plain_len` meets its contract: each `return` is a case of the definition.
use Rattle.std.proofs.Common.{arith, ◌∙◌}
use Rattle.renumber.specs.ShortLaws.{plain-three, plain-operator, plain-one, plain-cut, plain-two, plain_five}
use Rattle.renumber.proofs.runs.plain_len.Goals as goal

pub returns-then-v-eq28 : goal.returns-then-v-eq28
returns-then-v-eq28 c = plain-three _ _ (omega arith) _ c.three_len.ensures

pub returns-then-v-lt32 : goal.returns-then-v-lt32
returns-then-v-lt32 c = c.then_some.ensures ∙ plain-operator _ _ (omega arith) c.if-v-eq28.false _ c.is_plain.ensures

pub returns-then-v-lt247 : goal.returns-then-v-lt247
returns-then-v-lt247 c = plain-one _ _ (omega arith) (omega arith)

pub returns-then-p-lt2 : goal.returns-then-p-lt2
returns-then-p-lt2 c = plain-cut _ _ (omega arith) (omega arith) (omega arith)

pub returns-then-v-lt255 : goal.returns-then-v-lt255
returns-then-v-lt255 c = plain-two _ _ (omega arith) (omega arith) (omega arith)

pub returns : goal.returns
returns c = plain_five _ _ (omega arith) _ c.five_len.ensures
