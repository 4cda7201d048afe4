-- `decimal::real::no_digits` meets its contract: zero has no digits and no zeros.
use Rattle.decimal.specs.StageLaws.{held_none}
use Rattle.decimal.proofs.real.no_digits.Goals as goal

pub returns : goal.returns
returns c = held_none _
