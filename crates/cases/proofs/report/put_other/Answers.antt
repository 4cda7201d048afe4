-- `report::put_other` meets its contract: the counts behind those of the kinds.
use Rattle.cases.specs.Report.{other_bytes}
use Rattle.cases.proofs.report.put_other.Goals as goal

pub returns : goal.returns
unfolding other_bytes
returns c = c.put_row.ensures
