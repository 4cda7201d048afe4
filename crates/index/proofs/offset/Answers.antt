-- `index::offset` meets its contract: offset k is within the table, and the table within the font.
use Rattle.std.proofs.Common.{arith}
use Rattle.index.specs.IndexLaws.{offset_in}
use Rattle.index.proofs.offset.Goals as goal

pub overflow_mul-k : goal.overflow_mul-k
overflow_mul-k c = omega (arith, offset_in c.requires.0 c.args.k c.requires.1)

pub overflow_add-ix : goal.overflow_add-ix
overflow_add-ix c = omega (arith, offset_in c.requires.0 c.args.k c.requires.1)

pub num_at-requires : goal.num_at-requires
num_at-requires c = (c.requires.0.high, offset_in c.requires.0 c.args.k c.requires.1)
