-- The invariant: the subroutines below k were measured; one that is not written adds nothing.
use Rattle.bodies.specs.Sizes.{Adding}
use Rattle.bodies.specs.Written.{kept_of, subr_of}
use Rattle.bodies.proofs.subrs.total_directly.Given as goal

abbrev pub invariant-loop-k : goal.invariant-loop-k
invariant-loop-k l = Adding (subr_of l.all) (kept_of l.all) l.all.from.ix.count l.k l.total
