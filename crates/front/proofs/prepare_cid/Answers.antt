-- `front::prepare_cid` meets its contract: the texts of the slots are all that a CID-keyed subset uses.
use Rattle.front.specs.PrepareLaws.{cid_measured}
use Rattle.front.proofs.prepare_cid.Goals as goal

pub returns : goal.returns
returns c =
    (cid_measured c.args.font.now c.requires.0 _ c.prepare_slots.ensures.0 _ c.prepare_slots.ensures.1, c.prepare_slots.ensures.0)
