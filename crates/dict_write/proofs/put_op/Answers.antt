-- `dict_write::put_op` meets its contract: the number of an operator is that of its bytes.
use Rattle.dict_write.specs.OpLaws.{op_wrote}
use Rattle.dict_write.proofs.put_op.Goals as goal

pub returns : goal.returns
returns c = record { wrote = op_wrote _ _ _ _ _ _ c.requires.0 c.op_len.ensures c.num.ensures.wrote; same = c.num.ensures.same; size = c.num.ensures.size }
