-- `by_cid::cut_cid` meets its contract: what is prepared is cut.
use Rattle.std.proofs.Common.{arith, ◌≤◌, ◌<◌}
use Rattle.by_cid.proofs.cut_cid.Goals as goal

pub prepare-c-requires : goal.prepare-c-requires
prepare-c-requires c =
    let window : 0 < 4096 = omega arith in
    let slots : 8 ≤ 8 = omega arith in
    (c.requires, window, slots)

pub returns : goal.returns
returns c = c.prepare-c.ensures _ _ _ _ c.cut_planned.ensures
