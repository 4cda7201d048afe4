-- The invariant: the rows that are left, behind the last key, give what all give.
use Rattle.std.proofs.Common.{◌≡◌}
use Rattle.record.specs.Record.{rows_of}
use Rattle.reach.specs.Reach.{rises, rest_of}
use Rattle.reach.specs.Masks.{rises_from}
use Rattle.reach.proofs.masks.rises.Given as goal

abbrev pub invariant-loop-i : goal.invariant-loop-i
invariant-loop-i l =
    rises_from l.last (rest_of l.rows l.i) ≡ rises (rows_of l.rows)
