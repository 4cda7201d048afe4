-- `charstring::operand::number_before` meets its contract: the cases of the number that is read.
use Rattle.charstring.specs.BiasLaws.{last-read, last_none}
use Rattle.charstring.proofs.operand.number_before.Goals as goal

pub returns-then-at-from : goal.returns-then-at-from
returns-then-at-from c = last_none _ _ _ c.if-at-from.true

pub returns-in-Num : goal.returns-in-Num
returns-in-Num c = last-read _ _ _ c.if-at-from.false _ c.read_number.ensures _ c.in-Num.is

pub returns-in-Cut : goal.returns-in-Cut
returns-in-Cut c = last-read _ _ _ c.if-at-from.false _ c.read_number.ensures _ c.in-Cut.is

pub returns-in-Operator : goal.returns-in-Operator
returns-in-Operator c = last-read _ _ _ c.if-at-from.false _ c.read_number.ensures _ c.in-Operator.is
