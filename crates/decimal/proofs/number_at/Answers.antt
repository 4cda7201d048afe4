-- `decimal::number_at` meets its contract: each `return` is a case of `number_at`.
use Rattle.decimal.specs.NumberLaws.{cut_28, got_28, cut_29, got_29, got_30, got-none, got-below, got-above, got-pair, got-high}
use Rattle.decimal.proofs.number_at.Goals as goal

pub returns-then-left-lt3 : goal.returns-then-left-lt3
returns-then-left-lt3 c = let a = c.args in cut_28 a.d.now a.at _ c.from-v.ensures c.requires c.if-v-eq28.true c.if-left-lt3.true

pub returns-then-v-eq28 : goal.returns-then-v-eq28
returns-then-v-eq28 c = let a = c.args in got_28 a.d.now a.at _ c.from-v.ensures c.requires _ _ c.if-v-eq28.true c.if-left-lt3.false c.u16_at.ensures.0 c.twos.ensures

pub returns-then-left-lt5 : goal.returns-then-left-lt5
returns-then-left-lt5 c = let a = c.args in cut_29 a.d.now a.at _ c.from-v.ensures c.requires c.if-v-eq29.true c.if-left-lt5.true

pub returns-then-v-eq29 : goal.returns-then-v-eq29
returns-then-v-eq29 c = let a = c.args in got_29 a.d.now a.at _ c.from-v.ensures c.requires _ _ c.if-v-eq29.true c.if-left-lt5.false c.u32_at.ensures.0 c.twos-then-v-eq29.ensures

pub returns-then-v-eq30 : goal.returns-then-v-eq30
returns-then-v-eq30 c = let a = c.args in got_30 a.d.now a.at _ c.from-v.ensures c.requires _ c.if-v-eq30.true c.parse_real.ensures

pub returns-then-v-lt32 : goal.returns-then-v-lt32
returns-then-v-lt32 c = let a = c.args in got-none a.d.now a.at _ c.from-v.ensures c.requires c.if-v-eq28.false c.if-v-eq29.false c.if-v-eq30.false c.if-v-lt32.true

pub returns-then-v-lt139 : goal.returns-then-v-lt139
returns-then-v-lt139 c = let a = c.args in got-below a.d.now a.at _ c.from-v.ensures c.requires _ c.if-v-lt32.false c.if-v-lt139.true c.integer.ensures

pub returns-then-v-lt247 : goal.returns-then-v-lt247
returns-then-v-lt247 c = let a = c.args in got-above a.d.now a.at _ c.from-v.ensures c.requires _ c.if-v-lt139.false c.if-v-lt247.true c.integer-then-v-lt247.ensures

pub returns-then-v-lt255 : goal.returns-then-v-lt255
returns-then-v-lt255 c = let a = c.args in got-pair a.d.now a.at _ c.from-v.ensures c.requires _ c.if-v-lt247.false c.if-v-lt255.true c.pair.ensures

pub returns : goal.returns
returns c = let a = c.args in got-high a.d.now a.at _ c.from-v.ensures c.requires c.if-v-lt255.false
