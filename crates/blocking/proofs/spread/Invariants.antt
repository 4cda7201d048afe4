use Rattle.blocking.specs.SearchLaws.{Spreading}
use Rattle.blocking.proofs.spread.Given as goal

abbrev pub invariant-loop-g : goal.invariant-loop-g
invariant-loop-g l = Spreading l.keep l.initial.list l.g-index l.list
