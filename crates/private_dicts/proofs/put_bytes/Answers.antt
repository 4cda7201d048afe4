-- `private_dicts::put_bytes` meets its contract: the entries, and then Subrs where a local subroutine is left.
use Rattle.std.proofs.Common.{arith, refl, ◌∙◌}
use Rattle.octets.specs.OutLaws.{writes_as}
use Rattle.dict.specs.Places.{entries_of}
use Rattle.private_dicts.specs.PrivatesLaws.{none_left, bytes-room, subrs-small, subrs-room, subrs-wrote}
use Rattle.private_dicts.proofs.put_bytes.Goals as goal

pub put_private-requires : goal.put_private-requires
put_private-requires c = bytes-room (entries_of c.args.d.now) c.args.left _ _ c.requires.1

pub returns-then-left-eq0 : goal.returns-then-left-eq0
returns-then-left-eq0 c = writes_as c.put_private.ensures (none_left _ _ c.if-left-eq0.true)

pub overflow_add-out : goal.overflow_add-out
overflow_add-out c = omega (arith, subrs-small (entries_of c.args.d.now) c.args.left c.if-left-eq0.false _ _ _ _ c.requires.1 c.put_private.ensures.wrote c.requires.0)

pub put_offset_entry-requires : goal.put_offset_entry-requires
put_offset_entry-requires c = let w = c.put_private.ensures.wrote in (refl, subrs-small (entries_of c.args.d.now) c.args.left c.if-left-eq0.false _ _ _ _ c.requires.1 w c.requires.0, subrs-room (entries_of c.args.d.now) c.args.left c.if-left-eq0.false _ _ _ _ c.requires.1 w)

pub returns : goal.returns
returns c = record { wrote = subrs-wrote (entries_of c.args.d.now) c.args.left c.if-left-eq0.false _ _ _ _ c.requires.1 c.put_private.ensures.wrote _ _ c.put_offset_entry.ensures.wrote; same = c.put_offset_entry.ensures.same ∙ c.put_private.ensures.same; size = c.put_offset_entry.ensures.size ∙ c.put_private.ensures.size }
