-- `dict::placed::Dict::place` meets its contract: a slot of the table has its operator's last entry.
use Rattle.dict.proofs.NotedLaws.{noted_place}
use Rattle.dict.proofs.placed.Dict.place.Goals as goal

pub returns-then-j-slots : goal.returns-then-j-slots
returns-then-j-slots c = noted_place _ _ c.args.self.now.placed _ c.in-Some.is _ _ _ c.slot-j.ensures (c.slots.ensures.0) c.if-j-slots.true
