-- `top_dict::ros_ids` meets its contract: the one id behind the other.
use Rattle.std.proofs.Common.{arith}
use Rattle.top_dict.specs.Sent.{first_fits, then_fits, both_sent}
use Rattle.top_dict.specs.TopLaws.{slot_small}
use Rattle.top_dict.specs.TopParts.{ids-parts}
use Rattle.top_dict.proofs.ros_ids.Goals as goal

pub integer-requires : goal.integer-requires
integer-requires g c = (slot_small _ 0 c.requires.1 (omega arith), first_fits g.met.S.Sink.follows (ids-parts c.args.slots.now) c.requires.0)

pub integer-requires-2 : goal.integer-requires-2
integer-requires-2 g c = (slot_small _ 1 c.requires.1 (omega arith), then_fits g.met.S.Sink.follows (ids-parts c.args.slots.now) c.requires.0 c.integer.ensures)

pub returns : goal.returns
returns g c = both_sent g.met.S.Sink.follows (ids-parts c.args.slots.now) c.requires.0 c.integer.ensures c.integer-2.ensures
