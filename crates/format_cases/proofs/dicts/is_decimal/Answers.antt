-- `dicts::is_decimal` meets its contract: its tests are those of `is_decimal`.
use Rattle.format_cases.specs.DecimalsLaws.{last-zero, too_many, too_high, too_low, whole, one_power}
use Rattle.format_cases.proofs.dicts.is_decimal.Goals as goal

pub returns-then-digits-eq0-2 : goal.returns-then-digits-eq0-2
returns-then-digits-eq0-2 c = last-zero _ c.if-digits-eq0.false c.if-digits-eq0-2.true

pub returns-then-digits-ge1000000000000000 : goal.returns-then-digits-ge1000000000000000
returns-then-digits-ge1000000000000000 c = too_many _ c.if-digits-eq0.false c.if-digits-eq0-2.false c.if-digits-ge1000000000000000.true

pub returns-then-up-gt30 : goal.returns-then-up-gt30
returns-then-up-gt30 c = too_high _ c.if-digits-eq0.false c.if-digits-eq0-2.false c.if-digits-ge1000000000000000.false c.if-up-gt30.true

pub returns-then-down-gt30 : goal.returns-then-down-gt30
returns-then-down-gt30 c = too_low _ c.if-digits-eq0.false c.if-digits-eq0-2.false c.if-digits-ge1000000000000000.false c.if-up-gt30.false c.if-down-gt30.true

pub returns-then-down-eq0 : goal.returns-then-down-eq0
returns-then-down-eq0 c = whole _ c.if-digits-eq0.false c.if-digits-eq0-2.false c.if-digits-ge1000000000000000.false c.if-up-gt30.false c.if-down-gt30.false c.if-down-eq0.true

pub returns : goal.returns
returns c = one_power _ c.if-digits-eq0.false c.if-digits-eq0-2.false c.if-digits-ge1000000000000000.false c.if-up-gt30.false c.if-down-gt30.false c.if-down-eq0.false
