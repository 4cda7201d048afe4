-- `dict::op::slot` meets its contract: by the table.
use Rattle.dict.specs.Noted.{asked}
use Rattle.dict.proofs.op.slot.Goals as goal

pub returns-then-subsetting : goal.returns-then-subsetting
unfolding asked
returns-then-subsetting c = rw c.if-subsetting.true c.subset_slot.ensures

pub returns : goal.returns
unfolding asked
returns c = rw c.if-subsetting.false c.read_slot.ensures
