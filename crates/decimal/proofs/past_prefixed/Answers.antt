-- `decimal::past_prefixed` meets its contract: the first byte says how long the number is.
use Rattle.decimal.specs.PastLaws.{past-low, past_28, past_29, past_30, past_31}
use Rattle.decimal.proofs.past_prefixed.Goals as goal

pub returns-then-v-lt28 : goal.returns-then-v-lt28
returns-then-v-lt28 c = past-low _ _ _ c.requires.1 c.if-v-lt28.true

pub returns-then-v-eq28 : goal.returns-then-v-eq28
returns-then-v-eq28 c = past_28 _ _ _ c.requires.1 _ c.if-v-eq28.true c.past_bytes.ensures

pub returns-then-v-eq29 : goal.returns-then-v-eq29
returns-then-v-eq29 c = past_29 _ _ _ c.requires.1 _ c.if-v-eq29.true c.past_bytes-then-v-eq29.ensures

pub returns-then-v-eq30 : goal.returns-then-v-eq30
returns-then-v-eq30 c = past_30 _ _ _ c.requires.1 _ c.if-v-eq30.true c.past_real.ensures

pub returns : goal.returns
returns c = past_31 _ _ _ c.requires.1 c.requires.2 c.if-v-eq28.false c.if-v-eq29.false c.if-v-eq30.false
