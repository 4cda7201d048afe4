-- `dict::placed::Dict::ros` meets its contract: the place that was found holds the operands of the last ROS.
use Rattle.dict.proofs.LookupLaws.{ros-absent, ros_wrong, ros_is}
use Rattle.dict.proofs.placed.Dict.ros.Goals as goal

pub returns-then-count-eq3 : goal.returns-then-count-eq3
returns-then-count-eq3 c = ros_is _ _ c.place.ensures _ _ c.in-Some.is c.if-count-eq3.true _ _ _ c.operand.ensures c.operand-then-count-eq3.ensures c.operand-then-count-eq3-2.ensures _ c.ros_at.ensures

pub returns-in-None : goal.returns-in-None
returns-in-None c = ros-absent _ _ c.place.ensures c.in-None.is

pub returns-else-count-eq3 : goal.returns-else-count-eq3
returns-else-count-eq3 c = ros_wrong _ _ c.place.ensures _ _ c.in-Some.is c.if-count-eq3.false
