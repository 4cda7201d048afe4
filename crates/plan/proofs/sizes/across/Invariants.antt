-- The invariant: the FDs in use below fd are counted, and the last of them is known.
use Rattle.plan.specs.AcrossLaws.{Counting}
use Rattle.plan.proofs.sizes.across.Given as goal

abbrev pub invariant-loop-fd : goal.invariant-loop-fd
invariant-loop-fd l = Counting l.used l.count l.last l.fd
