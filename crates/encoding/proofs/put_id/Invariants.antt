use Rattle.encoding.specs.IdLaws.{Putting}
use Rattle.encoding.proofs.put_id.Given as goal

abbrev pub invariant-loop-code : goal.invariant-loop-code
invariant-loop-code l = Putting l.named l.initial.table l.glyph l.id l.code l.table
