-- `type2_number::put_number` meets its contract: each branch writes the bytes of its case of `number_bytes`.
use Rattle.std.proofs.Common.{arith}
use Rattle.octets.specs.OutLaws.{writes_as}
use Rattle.type2_number.specs.EncodingLaws.{encoded-fraction, encoded-integer, encoded_big, fraction-length, big_length, integer-length}
use Rattle.type2_number.proofs.put_number.Goals as goal

pub encode_fixed-requires : goal.encode_fixed-requires
encode_fixed-requires c = let k = c.count_of-s in (k.ensures.2, omega (arith, fraction-length _ k.result.neg k.result.size k.ensures.0 k.ensures.1 c.if-n-ne0.true))

pub returns-then-n-ne0 : goal.returns-then-n-ne0
returns-then-n-ne0 c = let k = c.count_of-s in writes_as c.encode_fixed.ensures (encoded-fraction _ k.result.neg k.result.size k.ensures.0 k.ensures.1 c.if-n-ne0.true)

pub encode_number-requires : goal.encode_number-requires
encode_number-requires c = let k = c.count_of-s in (omega arith, omega (arith, integer-length _ k.result.neg k.result.size k.ensures.0 k.ensures.1 c.if-n-ne0.false c.if-n-lt2147483648.true))

pub returns-then-n-lt2147483648 : goal.returns-then-n-lt2147483648
returns-then-n-lt2147483648 c = let k = c.count_of-s in writes_as c.encode_number.ensures (encoded-integer _ k.result.neg k.result.size k.ensures.0 k.ensures.1 c.if-n-ne0.false c.if-n-lt2147483648.true)

pub encode_fixed-requires-2 : goal.encode_fixed-requires-2
encode_fixed-requires-2 c = let k = c.count_of-s in (k.ensures.2, omega (arith, big_length _ k.result.neg k.result.size k.ensures.0 k.ensures.1 c.if-n-ne0.false c.if-n-lt2147483648.false))

pub returns : goal.returns
returns c = let k = c.count_of-s in writes_as c.encode_fixed-2.ensures (encoded_big _ k.result.neg k.result.size k.ensures.0 k.ensures.1 c.if-n-ne0.false c.if-n-lt2147483648.false)
