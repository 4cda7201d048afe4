-- `dict::op::slots` meets its contract: by the table.
use Rattle.std.proofs.Common.{arith}
use Rattle.dict.proofs.NotedLaws.{many_subsetting, many_reading}
use Rattle.dict.proofs.op.slots.Goals as goal

pub returns-then-subsetting : goal.returns-then-subsetting
returns-then-subsetting c = (many_subsetting _ c.if-subsetting.true, omega arith)

pub returns : goal.returns
returns c = (many_reading _ c.if-subsetting.false, omega arith)
