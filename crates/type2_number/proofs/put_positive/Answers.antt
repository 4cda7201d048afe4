-- `type2_number::put_positive` meets its contract: each arm writes the bytes of its form.
use Rattle.std.proofs.Common.{arith, false, refl}
use Rattle.octets.specs.OutLaws.{writes_as}
use Rattle.type2_number.specs.EncodingLaws.{length-one, length_two, length_three, one_pos, three_pos}
use Rattle.type2_number.proofs.FormsLaws.{form_bytes}
use Rattle.type2_number.proofs.put_positive.Goals as goal

pub byte-requires : goal.byte-requires
byte-requires c = let a = c.args in omega (arith, length-one false a.v (omega arith))

pub pair-requires : goal.pair-requires
pair-requires c = let a = c.args in omega (arith, length_two false a.v (omega arith) (omega arith))

pub pair-requires-in-364-to-619 : goal.pair-requires-in-364-to-619
pair-requires-in-364-to-619 c = let a = c.args in omega (arith, length_two false a.v (omega arith) (omega arith))

pub pair-requires-in-620-to-875 : goal.pair-requires-in-620-to-875
pair-requires-in-620-to-875 c = let a = c.args in omega (arith, length_two false a.v (omega arith) (omega arith))

pub pair-requires-in-876-to-1131 : goal.pair-requires-in-876-to-1131
pair-requires-in-876-to-1131 c = let a = c.args in omega (arith, length_two false a.v (omega arith) (omega arith))

pub put_tagged-requires : goal.put_tagged-requires
put_tagged-requires c = let a = c.args in omega (arith, length_three false a.v (omega arith))

pub returns-in-0-to-107 : goal.returns-in-0-to-107
returns-in-0-to-107 c = let a = c.args in writes_as c.byte.ensures (one_pos false a.v refl (omega arith))

pub returns-in-108-to-363 : goal.returns-in-108-to-363
returns-in-108-to-363 c = let a = c.args in writes_as c.pair.ensures (form_bytes false a.v 0 (omega arith) (omega arith) (omega arith))

pub returns-in-364-to-619 : goal.returns-in-364-to-619
returns-in-364-to-619 c = let a = c.args in writes_as c.pair-in-364-to-619.ensures (form_bytes false a.v 1 (omega arith) (omega arith) (omega arith))

pub returns-in-620-to-875 : goal.returns-in-620-to-875
returns-in-620-to-875 c = let a = c.args in writes_as c.pair-in-620-to-875.ensures (form_bytes false a.v 2 (omega arith) (omega arith) (omega arith))

pub returns-in-876-to-1131 : goal.returns-in-876-to-1131
returns-in-876-to-1131 c = let a = c.args in writes_as c.pair-in-876-to-1131.ensures (form_bytes false a.v 3 (omega arith) (omega arith) (omega arith))

pub returns-in_default : goal.returns-in_default
returns-in_default c = let a = c.args in writes_as c.put_tagged.ensures (three_pos false a.v refl (omega arith))
