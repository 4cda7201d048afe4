-- `decimal_write::put_number` meets its contract: each branch writes its case of `number_bytes`.
use Rattle.std.proofs.Common.{ap, arith, length, sym}
use Rattle.octets.specs.OutLaws.{writes_as}
use Rattle.decimal_write.specs.WrittenLaws.{parted, sized_int, sized_big}
use Rattle.decimal_write.proofs.put_number.Goals as goal

pub put_int-requires : goal.put_int-requires
put_int-requires c = (omega arith, omega (arith, ap length (sized_int _ _ c.d.view_is _ c.trunc-size.ensures c.if-down-eq0.true c.if-size-lt-LEAST_REAL.true)))

pub returns-then-size-lt-LEAST_REAL : goal.returns-then-size-lt-LEAST_REAL
returns-then-size-lt-LEAST_REAL c = writes_as c.put_int.ensures (sym (sized_int _ _ c.d.view_is _ c.trunc-size.ensures c.if-down-eq0.true c.if-size-lt-LEAST_REAL.true))

pub put_real-requires : goal.put_real-requires
put_real-requires c = omega (arith, ap length (sized_big _ _ c.d.view_is _ c.trunc-size.ensures c.if-down-eq0.true c.if-size-lt-LEAST_REAL.false))

pub returns-then-down-eq0 : goal.returns-then-down-eq0
returns-then-down-eq0 c = writes_as c.put_real.ensures (sym (sized_big _ _ c.d.view_is _ c.trunc-size.ensures c.if-down-eq0.true c.if-size-lt-LEAST_REAL.false))

pub put_real-requires-2 : goal.put_real-requires-2
put_real-requires-2 c = omega (arith, ap length (parted _ _ c.d.view_is c.if-down-eq0.false))

pub returns : goal.returns
returns c = writes_as c.put_real-2.ensures (sym (parted _ _ c.d.view_is c.if-down-eq0.false))
