-- `report::put_decimal` meets its contract: the fewest digits are the decimal ones.
use Rattle.std.proofs.Common.{arith, ◌∙◌}
use Rattle.octets.specs.OutLaws.{writes_as}
use Rattle.cases.specs.ReportLaws.{decimal-digits, decimal-few}
use Rattle.cases.proofs.report.put_decimal.Goals as goal

pub copy-requires : goal.copy-requires
copy-requires c = omega (arith, decimal-few _ _ c.ranges.n.fits c.decimal-k.ensures.len, c.decimal-k.ensures.in_bounds)

pub returns : goal.returns
returns c = writes_as c.copy.ensures (c.decimal-k.ensures.digits ∙ decimal-digits 20 _ _ (decimal-few _ _ c.ranges.n.fits c.decimal-k.ensures.len) c.decimal-k.ensures.len)
