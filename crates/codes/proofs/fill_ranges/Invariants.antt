use Rattle.std.proofs.Common.{◌+◌, ◌*◌, ◌-◌}
use Rattle.codes.specs.FillLaws.{RangesLeft}
use Rattle.codes.proofs.fill_ranges.Given as goal

abbrev pub invariant-loop-i : goal.invariant-loop-i
invariant-loop-i l = RangesLeft l.font l.at l.count l.n l.initial.table l.table (l.at + 2 * l.i) l.next (l.count - l.i)
