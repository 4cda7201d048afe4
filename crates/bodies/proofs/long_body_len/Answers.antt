-- `bodies::long_body_len` meets its contract: the way decides, and a renumbered body is at most five times as long.
use Rattle.std.proofs.Common.{sym, ◌∙◌}
use Rattle.mask_rows.specs.SameRoom.{room_stays}
use Rattle.bodies.specs.CodeLaws.{renumbered_len, copied_len}
use Rattle.bodies.proofs.long_body_len.Goals as goal

pub returns-then-eq : goal.returns-then-eq
returns-then-eq c =
    let r = renumbered_len _ _ _ _ _ _ _ c.args.one.now.body.now.octets c.args.one.now.body.now.inputs.local_ranks c.args.one.now.body.now.inputs.global_ranks (sym c.eq.ensures ∙ c.if-eq.true) _ c.renumbered_len.ensures.0 in
    (r.0, r.1, c.renumbered_len.ensures.1)

pub returns : goal.returns
returns c = let r = copied_len _ _ _ _ _ (sym c.eq.ensures ∙ c.if-eq.false) in (r.0, r.1, room_stays _)
