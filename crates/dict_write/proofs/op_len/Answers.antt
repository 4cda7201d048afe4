-- `dict_write::op_len` meets its contract: an escape has two bytes, any other operator one.
use Rattle.dict_write.specs.OpLaws.{op_one, op_two}
use Rattle.dict_write.proofs.op_len.Goals as goal

pub returns-then-op-lt-ESCAPE : goal.returns-then-op-lt-ESCAPE
returns-then-op-lt-ESCAPE c = op_one _ c.if-op-lt-ESCAPE.true

pub returns : goal.returns
returns c = op_two _ c.if-op-lt-ESCAPE.false
