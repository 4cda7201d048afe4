-- `type2_number::number_len` meets its contract: the lengths of the cases of `number_bytes`.
use Rattle.std.proofs.Common.{sym, ◌∙◌}
use Rattle.type2_number.specs.EncodingLaws.{fraction-length, big_length, integer-length, length-one, length_two, length_three}
use Rattle.type2_number.proofs.number_len.Goals as goal

pub returns-then-n-ne0 : goal.returns-then-n-ne0
returns-then-n-ne0 c = let k = c.count_of-s in fraction-length _ k.result.neg k.result.size k.ensures.0 k.ensures.1 c.if-n-ne0.true

pub returns-then-n-ge2147483648 : goal.returns-then-n-ge2147483648
returns-then-n-ge2147483648 c = let k = c.count_of-s in big_length _ k.result.neg k.result.size k.ensures.0 k.ensures.1 c.if-n-ne0.false c.if-n-ge2147483648.true

pub returns-then-i-le107 : goal.returns-then-i-le107
returns-then-i-le107 c = let k = c.count_of-s in sym (length-one k.result.neg _ c.if-i-le107.true) ∙ integer-length _ k.result.neg k.result.size k.ensures.0 k.ensures.1 c.if-n-ne0.false c.if-n-ge2147483648.false

pub returns-then-i-le1131 : goal.returns-then-i-le1131
returns-then-i-le1131 c = let k = c.count_of-s in sym (length_two k.result.neg _ c.if-i-le107.false c.if-i-le1131.true) ∙ integer-length _ k.result.neg k.result.size k.ensures.0 k.ensures.1 c.if-n-ne0.false c.if-n-ge2147483648.false

pub returns : goal.returns
returns c = let k = c.count_of-s in sym (length_three k.result.neg _ c.if-i-le1131.false) ∙ integer-length _ k.result.neg k.result.size k.ensures.0 k.ensures.1 c.if-n-ne0.false c.if-n-ge2147483648.false
