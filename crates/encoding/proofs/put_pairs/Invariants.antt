use Rattle.encoding.specs.PutLaws.{PairsLeft}
use Rattle.encoding.proofs.put_pairs.Given as goal

abbrev pub invariant-loop-code : goal.invariant-loop-code
invariant-loop-code l = PairsLeft l.table l.initial.out l.out l.code
