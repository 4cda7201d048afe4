-- `dict_write::put_private_entry` meets its contract: the size, and then the offset with the operator.
use Rattle.std.proofs.Common.{arith, refl, ◌∙◌}
use Rattle.dict_write.specs.WriteLaws.{private-room, private-then, private-wrote}
use Rattle.dict_write.proofs.put_private_entry.Goals as goal

pub put_int5-requires : goal.put_int5-requires
put_int5-requires c = (omega (arith, c.requires.0), private-room _ _ _ _ c.requires.2)

pub put_offset_entry-requires : goal.put_offset_entry-requires
put_offset_entry-requires c = (refl, c.requires.1, private-then _ _ _ _ _ _ c.requires.2 c.put_int5.ensures.wrote)

pub returns : goal.returns
returns c = record { wrote = private-wrote _ _ _ _ _ _ c.requires.2 c.put_int5.ensures.wrote _ _ c.put_offset_entry.ensures.wrote; same = c.put_offset_entry.ensures.same ∙ c.put_int5.ensures.same; size = c.put_offset_entry.ensures.size ∙ c.put_int5.ensures.size }
