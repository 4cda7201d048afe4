-- `type2_number::Operand::float` meets its contract: an f32 that holds a reading is the one of its count.
use Rattle.std.proofs.Common.{ap, sym, ◌∙◌}
use Rattle.type2_number.specs.Floats.{float_of}
use Rattle.type2_number.specs.Readings.{held_back}
use Rattle.type2_number.proofs.Operand.float.Goals as goal

pub returns : goal.returns
returns c = sym (held_back _ c.self.invariant) ∙ ap float_of c.self.view_is
