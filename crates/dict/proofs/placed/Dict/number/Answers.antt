-- `dict::placed::Dict::number` meets its contract: the place that was found holds the operands of the last entry.
use Rattle.dict.proofs.LookupLaws.{one-absent, one_other, one_is}
use Rattle.dict.proofs.placed.Dict.number.Goals as goal

pub returns-then-count-eq1 : goal.returns-then-count-eq1
returns-then-count-eq1 c = one_is _ _ _ c.place.ensures _ _ c.in-Some.is c.if-count-eq1.true _ c.operand.ensures

pub returns-in-None : goal.returns-in-None
returns-in-None c = one-absent _ _ _ c.place.ensures c.in-None.is

pub returns-else-count-eq1 : goal.returns-else-count-eq1
returns-else-count-eq1 c = one_other _ _ _ c.place.ensures _ _ c.in-Some.is c.if-count-eq1.false
