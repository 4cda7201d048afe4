-- The invariant: the rows that are left give what all give, and none is below the body.
use Rattle.reach.specs.TwoLaws.{Neighbours}
use Rattle.reach.proofs.masks.two_found.Given as goal

abbrev pub invariant-loop-i : goal.invariant-loop-i
invariant-loop-i l =
    Neighbours l.rows.bytes.now l.body l.i
