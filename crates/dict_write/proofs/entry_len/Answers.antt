-- `dict_write::entry_len` meets its contract: an entry is not much longer than what was read.
use Rattle.std.proofs.Common.{arith}
use Rattle.dict_write.specs.ShortLaws.{entry-short}
use Rattle.dict_write.proofs.entry_len.Goals as goal

pub entry-requires : goal.entry-requires
entry-requires c = (tt, omega (arith, entry-short c.args.d.now (λ i. (c.type_inv.d i).fits) c.args.op c.args.count c.args.start, c.requires))

pub returns : goal.returns
returns c = (omega (arith, c.entry.ensures.more), omega (arith, c.entry.ensures.more, entry-short c.args.d.now (λ i. (c.type_inv.d i).fits) c.args.op c.args.count c.args.start, c.requires))
