-- `type2_number::whole` meets its contract: an integer of up to 32768 in size is a reading.
use Rattle.std.proofs.Common.{arith, ◌*◌}
use Rattle.type2_number.specs.Readings.{reading-diff, holds, back-reading}
use Rattle.type2_number.proofs.whole.Goals as goal

pub invariant_of-result : goal.invariant_of-result
invariant_of-result c = let a = c.args in rw c.integer.ensures (holds _ (reading-diff (a.up * 65536) (a.down * 65536) (omega arith) (omega arith)))

pub returns : goal.returns
returns c = let a = c.args in rw c.integer.ensures (back-reading _ (reading-diff (a.up * 65536) (a.down * 65536) (omega arith) (omega arith)))
