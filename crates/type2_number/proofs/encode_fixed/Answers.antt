-- `type2_number::encode_fixed` meets its contract: each branch writes the bytes of its case.
use Rattle.octets.specs.OutLaws.{writes_as}
use Rattle.type2_number.specs.EncodingLaws.{fixed-neg, fixed_pos, fixed-top}
use Rattle.type2_number.proofs.encode_fixed.Goals as goal

pub returns-then-neg : goal.returns-then-neg
returns-then-neg c = writes_as c.put_tagged.ensures (fixed-neg _ _ c.if-neg.true)

pub returns-then-n-le2147483647 : goal.returns-then-n-le2147483647
returns-then-n-le2147483647 c = writes_as c.put_tagged-then-n-le2147483647.ensures (fixed_pos _ _ c.if-neg.false c.if-n-le2147483647.true)

pub returns : goal.returns
returns c = writes_as c.put_tagged-2.ensures (fixed-top _ _ c.if-neg.false c.if-n-le2147483647.false)
