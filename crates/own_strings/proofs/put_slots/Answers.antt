-- `own_strings::put_slots` meets its contract: slot by slot.
use Rattle.std.proofs.Common.{ap, List, ℕ, ◌∙◌}
use Rattle.dict.specs.Places.{entries_of}
use Rattle.own_strings.specs.Slots.{slots_of}
use Rattle.own_strings.specs.TurnLaws.{put-start, put-next, put-all}
use Rattle.own_strings.proofs.put_slots.Goals as goal

pub loop-j-init : goal.loop-j-init
loop-j-init c = put-start _ _ c.requires

pub loop-j-preserved : goal.loop-j-preserved
loop-j-preserved c = put-next c.args.cid _ _ _ _ c.loop-j.invariant c.loop-j-test.true _ c.named_sid.ensures

pub returns : goal.returns
returns c =
    let e = put-all c.args.cid _ _ _ _ c.loop-j.invariant c.loop-j-test.false in
    (e.0 ∙ ap (λ (b : List ℕ). slots_of c.args.cid (entries_of b)) c.read_top.ensures.0, e.1, e.2)
