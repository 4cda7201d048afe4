-- The invariant: the first i rows have set their bits.
use Rattle.reach.specs.MarkLaws.{Marking}
use Rattle.reach.proofs.ranks.mark_rows.Given as goal

abbrev pub invariant-loop-i : goal.invariant-loop-i
invariant-loop-i l =
    Marking l.rows l.kind l.fd l.count l.initial.held l.held l.all l.i
