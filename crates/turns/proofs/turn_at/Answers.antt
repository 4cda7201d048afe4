-- `turns::turn_at` meets its contract: the cases of what stands at the place.
use Rattle.turns.specs.TurnLaws.{turn-cut, turn-operator, turn-number, turn-full}
use Rattle.turns.proofs.turn_at.Goals as goal

pub returns-then-x-lt48 : goal.returns-then-x-lt48
returns-then-x-lt48 c = turn-number _ _ _ _ _ _ _ _ c.read_number.ensures _ _ c.in-Num.is c.if-x-lt48.true _ c.goes_on.ensures

pub returns-in-Cut : goal.returns-in-Cut
returns-in-Cut c = turn-cut _ _ _ _ _ _ _ _ c.read_number.ensures c.in-Cut.is

pub returns-in-Operator : goal.returns-in-Operator
returns-in-Operator c = turn-operator _ _ _ _ _ _ _ _ c.read_number.ensures c.in-Operator.is _ c.operator_turn.ensures

pub returns-else-x-lt48 : goal.returns-else-x-lt48
returns-else-x-lt48 c = turn-full _ _ _ _ _ _ _ _ c.read_number.ensures _ _ c.in-Num.is c.if-x-lt48.false
