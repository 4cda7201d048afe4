use Rattle.std.proofs.Common.{◌+◌, ◌-◌}
use Rattle.codes.specs.FillLaws.{RangeLeft}
use Rattle.codes.proofs.fill_range.Given as goal

abbrev pub invariant-loop-i : goal.invariant-loop-i
invariant-loop-i l = RangeLeft l.n l.first l.from l.count l.initial.table l.table (l.first + l.i) (l.from + l.i) (l.count - l.i)
