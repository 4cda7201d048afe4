-- `dict_write::private_len` meets its contract: a Private DICT is not much longer than what was read.
use Rattle.std.proofs.Common.{arith}
use Rattle.dict_write.specs.ShortLaws.{private-short}
use Rattle.dict_write.proofs.private_len.Goals as goal

pub private-requires : goal.private-requires
private-requires c = omega (arith, private-short c.args.d.now (λ i. (c.type_inv.d i).fits), c.requires)
