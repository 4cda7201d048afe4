-- `dict::operator_at` meets its contract: the tests of the definition, in its order.
use Rattle.dict.specs.TokenLaws.{operator-cut, operator-escape, operator-byte, operator-none}
use Rattle.dict.proofs.operator_at.Goals as goal

pub returns-then-d-at-lt2 : goal.returns-then-d-at-lt2
returns-then-d-at-lt2 c = operator-cut _ _ c.requires _ c.from-v.ensures c.if-v-eq12.true c.if-d-at-lt2.true

pub returns-then-v-eq12 : goal.returns-then-v-eq12
returns-then-v-eq12 c = operator-escape _ _ c.requires _ c.from-v.ensures c.if-v-eq12.true c.if-d-at-lt2.false _ c.from-e.ensures

pub returns-then-v-lt22 : goal.returns-then-v-lt22
returns-then-v-lt22 c = operator-byte _ _ c.requires _ c.from-v.ensures c.if-v-eq12.false c.if-v-lt22.true

pub returns : goal.returns
returns c = operator-none _ _ c.requires _ c.from-v.ensures c.if-v-eq12.false c.if-v-lt22.false
