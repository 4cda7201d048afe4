-- The invariant: the entries done stand in the answer, and what is left follows them.
use Rattle.dict.specs.Ahead.{entries_left}
use Rattle.dict.proofs.EntriesLaws.{Left}
use Rattle.format_cases.specs.DictsLaws.{Listing}
use Rattle.format_cases.proofs.dicts.of_dict.Given as goal

abbrev pub invariant-loop-entry : goal.invariant-loop-entry
invariant-loop-entry l = Left l.d (entries_left l.entry-iterator) (λ at. Listing l.d at l.answer)
