-- The invariant: the rows that are left give what all give.
use Rattle.std.proofs.Common.{◌≡◌}
use Rattle.record.specs.Record.{rows_of, rows_fine_lem}
use Rattle.reach.specs.Reach.{rest_of}
use Rattle.reach.proofs.rows_fine.Given as goal

abbrev pub invariant-loop-i : goal.invariant-loop-i
invariant-loop-i l =
    rows_fine_lem l.cid (rest_of l.rows l.i) ≡ rows_fine_lem l.cid (rows_of l.rows)
