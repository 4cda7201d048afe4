-- `own_strings::named_sid` meets its contract: by the slot, the keying, and what the DICT says of ROS.
use Rattle.dict.specs.Held.{entries}
use Rattle.own_strings.specs.TurnLaws.{named-entry, named-none, named-no_ros, named-registry, named-ordering}
use Rattle.own_strings.proofs.named_sid.Goals as goal

pub returns-then-j-ge2 : goal.returns-then-j-ge2
returns-then-j-ge2 c = named-entry c.args.cid (entries c.args.d.now) c.args.j c.if-j-ge2.true c.requires _ c.copied_top_string.ensures _ c.string_id.ensures

pub returns-then-not-cid : goal.returns-then-not-cid
returns-then-not-cid c = named-none c.args.cid (entries c.args.d.now) c.args.j c.if-j-ge2.false c.if-not-cid.true

pub returns-in-None : goal.returns-in-None
returns-in-None c = named-no_ros c.args.cid (entries c.args.d.now) c.args.j c.if-j-ge2.false c.if-not-cid.false _ c.ros.ensures c.in-None.is

pub returns-then-j-eq0 : goal.returns-then-j-eq0
returns-then-j-eq0 c = named-registry c.args.cid (entries c.args.d.now) c.args.j c.if-j-ge2.false c.if-not-cid.false _ c.ros.ensures _ _ _ c.in-Some.is c.if-j-eq0.true

pub returns-else-j-eq0 : goal.returns-else-j-eq0
returns-else-j-eq0 c = named-ordering c.args.cid (entries c.args.d.now) c.args.j c.if-j-ge2.false c.if-not-cid.false _ c.ros.ensures _ _ _ c.in-Some.is c.if-j-eq0.false
