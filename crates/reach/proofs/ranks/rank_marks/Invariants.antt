-- The invariant: the words passed are ranks.
use Rattle.reach.specs.MarkLaws.{Ranking}
use Rattle.reach.proofs.ranks.rank_marks.Given as goal

abbrev pub invariant-loop-mark : goal.invariant-loop-mark
invariant-loop-mark l =
    Ranking l.initial.marks l.marks l.reached l.mark-index
