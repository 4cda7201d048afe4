-- `dict_write::entry` meets its contract: the operands and then the operator.
use Rattle.dict_write.specs.Written.{entry_bytes}
use Rattle.dict_write.proofs.entry.Goals as goal

pub operands-requires : goal.operands-requires
unfolding entry_bytes
operands-requires g c = g.met.S.Sink.follows.first _ _ _ c.requires.1

pub op-requires : goal.op-requires
unfolding entry_bytes
op-requires g c = (c.requires.0, g.met.S.Sink.follows.second _ _ _ _ c.requires.1 c.operands.ensures)

pub returns : goal.returns
unfolding entry_bytes
returns g c = g.met.S.Sink.follows.both _ _ _ _ _ c.requires.1 c.operands.ensures c.op.ensures
