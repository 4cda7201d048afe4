-- `type2_number::fixed_operand` meets its contract: a 16.16 rounded to an f32 is a reading.
use Rattle.type2_number.specs.Readings.{reading-fixed, holds, back-reading}
use Rattle.type2_number.proofs.fixed_operand.Goals as goal

pub invariant_of-result : goal.invariant_of-result
invariant_of-result c = rw c.fixed.ensures (holds _ (reading-fixed _ _ c.requires.0 c.requires.1))

pub returns : goal.returns
returns c = rw c.fixed.ensures (back-reading _ (reading-fixed _ _ c.requires.0 c.requires.1))
