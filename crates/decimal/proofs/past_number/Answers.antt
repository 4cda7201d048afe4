-- `decimal::past_number` meets its contract: the first byte says how long the number is.
use Rattle.decimal.specs.PastLaws.{past_one, past-pair, past-high}
use Rattle.decimal.proofs.past_number.Goals as goal

pub returns-then-v-lt247 : goal.returns-then-v-lt247
returns-then-v-lt247 c = past_one _ _ _ c.from-v.ensures c.requires c.if-v-lt32.false c.if-v-lt247.true

pub returns-then-v-lt255 : goal.returns-then-v-lt255
returns-then-v-lt255 c = past-pair _ _ _ c.from-v.ensures _ c.if-v-lt247.false c.if-v-lt255.true c.past_bytes.ensures

pub returns : goal.returns
returns c = past-high _ _ _ c.from-v.ensures c.if-v-lt255.false
