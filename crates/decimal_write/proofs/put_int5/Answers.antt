-- `decimal_write::put_int5` meets its contract: each branch writes the bytes of its sign.
use Rattle.octets.specs.OutLaws.{writes_as}
use Rattle.decimal_write.specs.IntLaws.{int5_neg, int5_pos}
use Rattle.decimal_write.proofs.put_int5.Goals as goal

pub returns-then-neg : goal.returns-then-neg
returns-then-neg c = let a = c.args in writes_as c.put_tagged.ensures (int5_neg a.neg a.size c.if-neg.true)

pub returns : goal.returns
returns c = let a = c.args in writes_as c.put_tagged-2.ensures (int5_pos a.neg a.size c.if-neg.false)
