-- The invariant: the rows that are left give what all give.
use Rattle.std.proofs.Common.{◌≡◌}
use Rattle.record.specs.Record.{rows_of}
use Rattle.reach.specs.Reach.{rest_of}
use Rattle.reach.specs.Masks.{len_at}
use Rattle.reach.proofs.masks.given_passed.Given as goal

abbrev pub invariant-loop-i : goal.invariant-loop-i
invariant-loop-i l =
    len_at l.key (rest_of l.rows l.i) ≡ len_at l.key (rows_of l.rows)
