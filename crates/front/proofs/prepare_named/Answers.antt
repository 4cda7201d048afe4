-- `front::prepare_named` meets its contract: the slots, and then the names of the kept glyphs, which differ.
use Rattle.front.specs.PrepareLaws.{counted-measured}
use Rattle.front.proofs.prepare_named.Goals as goal

pub count_names-requires : goal.count_names-requires
count_names-requires c =
    let e = c.prepare_slots-own.ensures in
    (record { small = c.before.requires.0; given = e.0.given; apart = c.before.requires.1 }, e.1)

pub returns : goal.returns
returns c =
    let g = c.prepare_slots-own.ensures.0 in
    let e = c.count_names.ensures in
    (counted-measured c.before.args.kept.now _ g _ e.0 e.1 e.2, g, e.3)
