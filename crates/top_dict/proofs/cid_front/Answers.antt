-- `top_dict::cid_front` meets its contract: ROS, what is carried over, and CIDCount, one behind the other.
use Rattle.dict.specs.Held.{entries}
use Rattle.top_dict.specs.Sent.{first_fits, sent_start, sent_room, sent_turn, sent_left, sent_last}
use Rattle.top_dict.specs.TopParts.{front-parts, front_rest}
use Rattle.top_dict.proofs.cid_front.Goals as goal

pub ros-requires : goal.ros-requires
ros-requires g c = first_fits g.met.S.Sink.follows (front-parts (entries c.args.top.now.dict) c.args.top.now.slots.now) c.requires

pub carried-requires : goal.carried-requires
carried-requires g c =
    let f = g.met.S.Sink.follows in
    sent_room f c.requires (front_rest (entries c.args.top.now.dict) c.args.top.now.slots.now) (sent_turn f c.requires (front-parts (entries c.args.top.now.dict) c.args.top.now.slots.now) (sent_start f _ _) c.ros.ensures)

pub count-requires : goal.count-requires
count-requires g c =
    let f = g.met.S.Sink.follows in
    let v = sent_turn f c.requires (front-parts (entries c.args.top.now.dict) c.args.top.now.slots.now) (sent_start f _ _) c.ros.ensures in
    sent_left f c.requires (sent_turn f c.requires (front_rest (entries c.args.top.now.dict) c.args.top.now.slots.now) v c.carried.ensures)

pub returns : goal.returns
returns g c =
    let f = g.met.S.Sink.follows in
    let v = sent_turn f c.requires (front-parts (entries c.args.top.now.dict) c.args.top.now.slots.now) (sent_start f _ _) c.ros.ensures in
    sent_last f c.requires (sent_turn f c.requires (front_rest (entries c.args.top.now.dict) c.args.top.now.slots.now) v c.carried.ensures) c.count.ensures
