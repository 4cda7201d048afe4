-- `dict_write::put_offset_entry` meets its contract: the five-byte form and then the operator.
use Rattle.std.proofs.Common.{arith, ◌∙◌}
use Rattle.dict_write.specs.WriteLaws.{offset-room, offset-then, offset-wrote}
use Rattle.dict_write.proofs.put_offset_entry.Goals as goal

pub put_int5-requires : goal.put_int5-requires
put_int5-requires c = (omega (arith, c.requires.1), offset-room _ _ _ _ c.requires.2)

pub put_op-requires : goal.put_op-requires
put_op-requires c = (c.requires.0, offset-then _ _ _ _ _ _ c.requires.2 c.put_int5.ensures.wrote)

pub returns : goal.returns
returns c = record { wrote = offset-wrote _ _ _ _ _ _ c.requires.2 c.put_int5.ensures.wrote _ _ c.put_op.ensures.wrote; same = c.put_op.ensures.same ∙ c.put_int5.ensures.same; size = c.put_op.ensures.size ∙ c.put_int5.ensures.size }
