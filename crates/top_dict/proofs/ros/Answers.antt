-- `top_dict::ros` meets its contract: the two ids, the supplement and the operator, one behind the other.
use Rattle.std.proofs.Common.{refl}
use Rattle.std.proofs.Common.{subst, List, ℕ}
use Rattle.top_dict.specs.Sent.{first_fits, sent_start, sent_room, sent_turn, sent_left, sent_last}
use Rattle.top_dict.specs.TopLaws.{ros-small, ros-none, ros_there, ros-rest}
use Rattle.top_dict.proofs.ros.Goals as goal

pub ros_ids-requires : goal.ros_ids-requires
ros_ids-requires g c =
    (first_fits g.met.S.Sink.follows (ros_there c.args.top.now.slots.now _ _ c.ros.ensures _ _ _ c.in-Some.is) c.requires, c.args.top.now.filled)

pub integer-requires : goal.integer-requires
integer-requires g c =
    let f = g.met.S.Sink.follows in
    let v = sent_turn f c.requires (ros_there c.args.top.now.slots.now _ _ c.ros.ensures _ _ _ c.in-Some.is) (sent_start f _ _) c.ros_ids.ensures in
    (ros-small _ _ c.ros.ensures _ _ _ c.in-Some.is, sent_room f c.requires (ros-rest c.in-Some.entry.supplement) v)

pub op-requires : goal.op-requires
op-requires g c =
    let f = g.met.S.Sink.follows in
    let v = sent_turn f c.requires (ros_there c.args.top.now.slots.now _ _ c.ros.ensures _ _ _ c.in-Some.is) (sent_start f _ _) c.ros_ids.ensures in
    (g.met.S.Sink.operators _ refl, sent_left f c.requires (sent_turn f c.requires (ros-rest c.in-Some.entry.supplement) v c.integer.ensures))

pub returns-in-None : goal.returns-in-None
returns-in-None g c = subst (λ (l : List ℕ). g.S.Sink.takes c.args.to.now l c.args.to.now) (ros-none _ _ _ c.ros.ensures c.in-None.is) (g.met.S.Sink.follows.none _)

pub returns-in-Some : goal.returns-in-Some
returns-in-Some g c =
    let f = g.met.S.Sink.follows in
    let v = sent_turn f c.requires (ros_there c.args.top.now.slots.now _ _ c.ros.ensures _ _ _ c.in-Some.is) (sent_start f _ _) c.ros_ids.ensures in
    sent_last f c.requires (sent_turn f c.requires (ros-rest c.in-Some.entry.supplement) v c.integer.ensures) c.op.ensures
