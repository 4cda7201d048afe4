-- `decimal_write::int_len` meets its contract: the lengths of the forms of `int_bytes`.
use Rattle.std.proofs.Common.{sym}
use Rattle.decimal_write.specs.IntLaws.{length-one, length_two, len_low, len_least, len_down, len_up}
use Rattle.decimal_write.proofs.int_len.Goals as goal

pub returns-then-size-le107 : goal.returns-then-size-le107
returns-then-size-le107 c = let a = c.args in sym (length-one a.neg a.size c.if-size-le107.true)

pub returns-then-size-le1131 : goal.returns-then-size-le1131
returns-then-size-le1131 c = let a = c.args in sym (length_two a.neg a.size c.if-size-le107.false c.if-size-le1131.true)

pub returns-then-size-le32767 : goal.returns-then-size-le32767
returns-then-size-le32767 c = let a = c.args in len_low a.neg a.size c.if-size-le1131.false c.if-size-le32767.true

pub returns-then-size-eq32768 : goal.returns-then-size-eq32768
returns-then-size-eq32768 c = let a = c.args in len_least a.neg a.size c.if-size-le32767.false c.if-neg.true c.if-size-eq32768.true

pub returns-else-size-eq32768 : goal.returns-else-size-eq32768
returns-else-size-eq32768 c = let a = c.args in len_down a.neg a.size c.if-size-le32767.false c.if-neg.true c.if-size-eq32768.false

pub returns-else-neg : goal.returns-else-neg
returns-else-neg c = let a = c.args in len_up a.neg a.size c.if-size-le32767.false c.if-neg.false
