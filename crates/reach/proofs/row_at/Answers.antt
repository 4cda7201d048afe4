-- `reach::row_at` meets its contract: the five numbers are those of the row.
use Rattle.std.proofs.Common.{refl}
use Rattle.reach.specs.RowLaws.{row_read}
use Rattle.reach.proofs.row_at.Goals as goal

pub returns : goal.returns
returns c = row_read _ _ _ _ _ _ _ refl refl c.u16_at-number.ensures.0 c.u32_at-offset.ensures.0 c.u16_at-len.ensures.0
