-- `bodies::put_long_body` meets its contract: the way decides.
use Rattle.std.proofs.Common.{sym, ◌∙◌}
use Rattle.octets.specs.OutLaws.{writes_as}
use Rattle.mask_rows.specs.SameRoom.{room_stays}
use Rattle.bodies.specs.CodeLaws.{new-renumbered, new-copied, renumbered-room, copied-room}
use Rattle.bodies.proofs.put_long_body.Goals as goal

pub put_renumbered-requires : goal.put_renumbered-requires
put_renumbered-requires c = renumbered-room _ _ _ _ _ (sym c.eq.ensures ∙ c.if-eq.true) _ _ c.requires.0 c.requires.1

pub returns-then-eq : goal.returns-then-eq
returns-then-eq c = (writes_as c.put_renumbered.ensures.0 (new-renumbered _ _ _ _ _ (sym c.eq.ensures ∙ c.if-eq.true)), c.put_renumbered.ensures.1)

pub copy-requires : goal.copy-requires
copy-requires c = copied-room _ _ _ _ _ (sym c.eq.ensures ∙ c.if-eq.false) _ _ c.requires.1

pub returns : goal.returns
returns c = (writes_as c.copy.ensures (new-copied _ _ _ _ _ (sym c.eq.ensures ∙ c.if-eq.false)), room_stays _)
