-- The invariant: what the rows that are left give is what all of them give.
use Rattle.std.proofs.Common.{◌*◌, ◌+◌, ◌-◌, ◌≡◌}
use Rattle.opentype.specs.Opentype.{row_from_lem}
use Rattle.opentype.proofs.row_from.Given as goal

abbrev pub invariant-loop-i : goal.invariant-loop-i
invariant-loop-i l = row_from_lem l.file (l.n - l.i) (l.from + 16 * l.i) ≡ row_from_lem l.file l.n l.from
