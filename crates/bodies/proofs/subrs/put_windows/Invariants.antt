-- The invariant: the subroutines below k were written, with the offsets of their ends, and the window has what it says.
use Rattle.bodies.specs.Ways.{many_of}
use Rattle.bodies.specs.WritingOut.{WritesOn}
use Rattle.bodies.specs.Written.{kept_of, subrs_of, Shows}
use Rattle.bodies.proofs.subrs.put_windows.Given as goal

abbrev pub invariant-loop-k : goal.invariant-loop-k
invariant-loop-k l =
    WritesOn l.initial.out l.ix (many_of (subrs_of l.m.all)) (kept_of l.m.all) l.m.all.from.ix.count l.k l.put l.out × Shows l.m.all l.lent.bytes.now l.window
