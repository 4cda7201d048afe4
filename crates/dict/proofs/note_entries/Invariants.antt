use Rattle.dict.specs.Ahead.{entries_left}
use Rattle.dict.proofs.EntriesLaws.{Left}
use Rattle.dict.proofs.NotedLaws.{Noting}
use Rattle.dict.proofs.note_entries.Given as goal

abbrev pub invariant-loop-entry : goal.invariant-loop-entry
invariant-loop-entry l = Left l.d (entries_left l.entry-iterator) (λ at. Noting l.subsetting l.d at l.last)
