-- `decimal::real::digit` meets its contract: a zero is counted, any other digit stands behind the zeros that wait.
use Rattle.decimal.specs.StageLaws.{digit-nought, digit-zero, digit-more, digit_many}
use Rattle.decimal.proofs.real.digit.Goals as goal

pub returns-then-digits-eq0 : goal.returns-then-digits-eq0
returns-then-digits-eq0 c s n f e = let a = c.args in digit-nought a.h a.point a.x _ _ c.requires c.raised-zeros.ensures c.counted-behind.ensures s n f e c.if-x-eq0.true c.if-digits-eq0.true

pub returns-then-x-eq0 : goal.returns-then-x-eq0
returns-then-x-eq0 c s n f e = let a = c.args in digit-zero a.h a.point a.x _ _ c.requires c.raised-zeros.ensures c.counted-behind.ensures s n f e c.if-x-eq0.true c.if-digits-eq0.false

pub returns-then-more-lt-TOO_MANY : goal.returns-then-more-lt-TOO_MANY
returns-then-more-lt-TOO_MANY c s n f e = let a = c.args in digit-more a.h a.point a.x _ _ c.requires c.raised-zeros.ensures c.counted-behind.ensures s n f e _ c.scaled_up.ensures c.if-x-eq0.false c.if-more-lt-TOO_MANY.true

pub returns : goal.returns
returns c s n f e = let a = c.args in digit_many a.h a.point a.x _ _ c.requires c.raised-zeros.ensures c.counted-behind.ensures s n f e _ c.scaled_up.ensures c.if-x-eq0.false c.if-more-lt-TOO_MANY.false
