-- `reach::masks::two_lengths` meets its contract: a row is of the body exactly where its kind, FD and number are.
use Rattle.reach.specs.KeyLaws.{two-right}
use Rattle.reach.proofs.masks.two_lengths.Goals as goal

pub returns-then-rows : goal.returns-then-rows
returns-then-rows c =
    let s = c.site_body-body.ensures in
    two-right _ c.args.rows.now.octets c.args.site _ s.1 s.0 _ c.two_found.ensures

pub returns : goal.returns
returns c =
    let s = c.site_body-body.ensures in
    two-right _ c.args.rows.now.octets c.args.site _ s.1 s.0 _ c.two_passed.ensures
