-- `decimal::real::finished` meets its contract: the tests of `value_of`, on the digits and powers as they are held.
use Rattle.decimal.specs.RealLaws.{finished_long, finished-nought, finished_many, finished-down, finished-up}
use Rattle.decimal.proofs.real.finished.Goals as goal

pub returns-then-bytes-gt32 : goal.returns-then-bytes-gt32
returns-then-bytes-gt32 c s n f e k eh ee few by = let a = c.args in finished_long a.held a.eneg a.exp a.bytes a.next s n f e k eh ee few by c.if-bytes-gt32.true

pub returns-then-digits-eq0 : goal.returns-then-digits-eq0
returns-then-digits-eq0 c s n f e k eh ee few by = let a = c.args in finished-nought a.held a.eneg a.exp a.bytes a.next s n f e k eh ee few by c.if-bytes-gt32.false c.if-digits-eq0.true

pub returns-then-digits-ge-TOO_MANY : goal.returns-then-digits-ge-TOO_MANY
returns-then-digits-ge-TOO_MANY c s n f e k eh ee few by = let a = c.args in finished_many a.held a.eneg a.exp a.bytes a.next s n f e k eh ee few by c.if-bytes-gt32.false c.if-digits-eq0.false c.if-digits-ge-TOO_MANY.true

pub returns-then-eneg : goal.returns-then-eneg
returns-then-eneg c s n f e k eh ee few by = let a = c.args in finished-down a.held a.eneg a.exp a.bytes a.next s n f e k eh ee few by c.if-bytes-gt32.false c.if-digits-eq0.false c.if-digits-ge-TOO_MANY.false _ c.if-eneg.true c.limited.ensures

pub returns : goal.returns
returns c s n f e k eh ee few by = let a = c.args in finished-up a.held a.eneg a.exp a.bytes a.next s n f e k eh ee few by c.if-bytes-gt32.false c.if-digits-eq0.false c.if-digits-ge-TOO_MANY.false _ c.if-eneg.false c.limited-2.ensures
