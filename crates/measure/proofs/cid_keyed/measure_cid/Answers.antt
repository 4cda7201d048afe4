-- `measure::cid_keyed::measure_cid` meets its contract: what is prepared is measured.
use Rattle.std.proofs.Common.{[], arith, refl, ◌≤◌, ◌<◌}
use Rattle.measure.proofs.cid_keyed.measure_cid.Goals as goal

pub prepare-c-requires : goal.prepare-c-requires
prepare-c-requires c =
    let window : 0 < 4096 = omega arith in
    let slots : 8 ≤ 8 = omega arith in
    (c.requires, window, slots)

pub returns : goal.returns
returns c = (c.prepare-c.ensures 67108864 [] _ _ (record { answers = c.measure_planned.ensures; output = refl })).answers
