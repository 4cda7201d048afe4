-- `dict::placed::Dict::is_cid_keyed` meets its contract: ROS was found or not.
use Rattle.dict.proofs.LookupLaws.{there_is, there_not}
use Rattle.dict.proofs.placed.Dict.is_cid_keyed.Goals as goal

pub returns-in-None : goal.returns-in-None
returns-in-None c = there_not _ _ _ c.place.ensures c.in-None.is

pub returns-in-Some : goal.returns-in-Some
returns-in-Some c = there_is _ _ _ c.place.ensures _ _ c.in-Some.is
