-- `bodies::subrs::advance` meets its contract: the globals' rows have kind 4, those of the locals of an FD kind 3.
use Rattle.bodies.specs.WindowsLaws.{fills_subr, fills_global, covers_global, global_covers, fills_local, covers_local, local_covers}
use Rattle.bodies.proofs.subrs.advance.Goals as goal

pub advance-requires : goal.advance-requires
advance-requires c =
    let one = c.args.one.now in
    (fills_global c.in-Global.is (fills_subr one.of.now.from one.of.now.sourced one.k one.there), covers_global c.in-Global.is _ _ _ c.requires)

pub advance-requires-in-Local : goal.advance-requires-in-Local
advance-requires-in-Local c =
    let one = c.args.one.now in
    (fills_local c.in-Local.is (fills_subr one.of.now.from one.of.now.sourced one.k one.there), covers_local c.in-Local.is _ _ _ c.requires)

pub returns-in-Global : goal.returns-in-Global
returns-in-Global c =
    (global_covers c.in-Global.is _ _ _ c.advance.ensures.0, c.advance.ensures.1)

pub returns-in-Local : goal.returns-in-Local
returns-in-Local c =
    (local_covers c.in-Local.is _ _ _ c.advance-in-Local.ensures.0, c.advance-in-Local.ensures.1)
