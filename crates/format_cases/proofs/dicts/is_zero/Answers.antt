-- `dicts::is_zero` meets its contract: its tests are those of `is_decimal`.
use Rattle.std.proofs.Common.{refl}
use Rattle.format_cases.specs.DecimalsLaws.{zero-neg, zero-up, zero-down}
use Rattle.format_cases.proofs.dicts.is_zero.Goals as goal

pub returns-then-neg : goal.returns-then-neg
returns-then-neg c = zero-neg _ refl c.if-neg.true

pub returns-then-up-eq0 : goal.returns-then-up-eq0
returns-then-up-eq0 c = zero-down _ refl c.if-neg.false c.if-up-eq0.true

pub returns : goal.returns
returns c = zero-up _ refl c.if-neg.false c.if-up-eq0.false
