-- `reach::masks::given` meets its contract: a row is at the place exactly where it has its key.
use Rattle.std.proofs.Common.{refl}
use Rattle.reach.specs.KeyLaws.{given-right}
use Rattle.reach.proofs.masks.given.Goals as goal

pub returns-then-rows : goal.returns-then-rows
returns-then-rows c =
    let s = c.site_body.ensures in
    given-right _ c.args.rows.now.octets c.args.site c.args.offset _ _ s.1 c.ranges.offset.fits s.0 refl _ c.given_found.ensures

pub returns : goal.returns
returns c =
    let s = c.site_body.ensures in
    given-right _ c.args.rows.now.octets c.args.site c.args.offset _ _ s.1 c.ranges.offset.fits s.0 refl _ c.given_passed.ensures
