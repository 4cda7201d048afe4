-- The invariant: the subroutines below k were written, with the offsets of their ends.
use Rattle.bodies.specs.Ways.{many_of}
use Rattle.bodies.specs.WritingOut.{WritesOn}
use Rattle.bodies.specs.Written.{kept_of, subrs_of}
use Rattle.bodies.proofs.subrs.put_directly.Given as goal

abbrev pub invariant-loop-k : goal.invariant-loop-k
invariant-loop-k l = WritesOn l.initial.out l.ix (many_of (subrs_of l.m.all)) (kept_of l.m.all) l.m.all.from.ix.count l.k l.j l.out
