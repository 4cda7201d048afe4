use Rattle.std.proofs.Common.{◌+◌, ◌*◌, ◌-◌}
use Rattle.cff.specs.Loaded.{program}
use Rattle.codes.specs.FillLaws.{SuppliedLeft}
use Rattle.codes.proofs.fill_supplements.Given as goal

abbrev pub invariant-loop-i : goal.invariant-loop-i
invariant-loop-i l = SuppliedLeft (program l.font) l.font.bytes.now l.at l.count l.initial.table l.table (l.at + 3 * l.i) (l.count - l.i)
