use Rattle.dict.specs.Ahead.{entries_left}
use Rattle.dict.proofs.EntriesLaws.{Left}
use Rattle.dict.proofs.WalkLaws.{Checking, Finding}
use Rattle.dict.proofs.find_entry.Given as goal

abbrev pub invariant-loop-entry : goal.invariant-loop-entry
invariant-loop-entry l = Left l.d (entries_left l.entry-iterator) (λ at. Checking l.d at × Finding l.d l.op at l.found)
