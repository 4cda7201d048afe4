use Rattle.index.specs.Index.{items_of}
use Rattle.cff.specs.SetLaws.{Reading}
use Rattle.cff.proofs.set.read_others.Given as goal

abbrev pub invariant-loop-k : goal.invariant-loop-k
invariant-loop-k l = Reading l.font l.strings l.globals (items_of l.font l.tops) l.first l.k
