use Rattle.std.proofs.Common.{◌+◌, ◌-◌}
use Rattle.codes.specs.FillLaws.{CodesLeft}
use Rattle.codes.proofs.fill_codes.Given as goal

abbrev pub invariant-loop-i : goal.invariant-loop-i
invariant-loop-i l = CodesLeft l.font l.at l.count l.n l.initial.table l.table (l.at + l.i) (l.i + 1) (l.count - l.i)
