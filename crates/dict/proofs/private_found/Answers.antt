-- `dict::private_found` meets its contract: the place that was found holds the operands of the last Private.
use Rattle.dict.proofs.LookupLaws.{private-absent, private_wrong, private_is}
use Rattle.dict.proofs.private_found.Goals as goal

pub returns-then-count-eq2 : goal.returns-then-count-eq2
returns-then-count-eq2 c = private_is _ _ c.requires _ _ c.in-Some.is c.if-count-eq2.true _ _ c.operand.ensures c.operand-then-count-eq2.ensures _ c.private_at.ensures

pub returns-in-None : goal.returns-in-None
returns-in-None c = private-absent _ _ c.requires c.in-None.is

pub returns-else-count-eq2 : goal.returns-else-count-eq2
returns-else-count-eq2 c = private_wrong _ _ c.requires _ _ c.in-Some.is c.if-count-eq2.false
