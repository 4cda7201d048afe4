-- The invariant: the rows that are left give what all give.
use Rattle.std.proofs.Common.{◌≡◌}
use Rattle.record.specs.Record.{rows_of}
use Rattle.reach.specs.Reach.{rest_of}
use Rattle.reach.specs.Masks.{two_of}
use Rattle.reach.proofs.masks.two_passed.Given as goal

abbrev pub invariant-loop-i : goal.invariant-loop-i
invariant-loop-i l =
    two_of l.body (rest_of l.rows l.i) ≡ two_of l.body (rows_of l.rows)
