-- `index::items_total` meets its contract: the items lie one behind the other, from the first offset to the last.
use Rattle.std.proofs.Common.{arith}
use Rattle.index.proofs.FoundLaws.{items_long, offsets-rise}
use Rattle.index.proofs.items_total.Goals as goal

pub overflow_sub-result : goal.overflow_sub-result
overflow_sub-result c = omega (arith, offsets-rise _ _ c.requires)

pub returns : goal.returns
returns c = omega (arith, items_long _ _ c.requires)
