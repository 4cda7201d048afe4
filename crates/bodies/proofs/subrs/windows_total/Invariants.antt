-- The invariant: the subroutines below k were measured, and the window has what it says.
use Rattle.bodies.specs.Sizes.{Adding}
use Rattle.bodies.specs.Written.{kept_of, subr_of, Shows}
use Rattle.bodies.proofs.subrs.windows_total.Given as goal

abbrev pub invariant-loop-k : goal.invariant-loop-k
invariant-loop-k l = Adding (subr_of l.all) (kept_of l.all) l.all.from.ix.count l.k l.total × Shows l.all l.lent.bytes.now l.window
