-- `blocking::spread` meets its contract: the invariant: what is left of the keep list, spread on what stands there, is the whole spread.
use Rattle.std.proofs.Common.{arith}
use Rattle.blocking.specs.SearchLaws.{spread-inside, spread-next, spread_done}
use Rattle.blocking.proofs.spread.Goals as goal

pub bounds-list-g : goal.bounds-list-g
bounds-list-g c = spread-inside _ _ _ _ c.loop-g.invariant c.requires (omega arith)

pub loop-g-preserved : goal.loop-g-preserved
loop-g-preserved c = spread-next _ _ _ _ c.loop-g.invariant (omega arith)

pub returns : goal.returns
returns c = spread_done _ _ _ _ c.loop-g.invariant (omega arith)
