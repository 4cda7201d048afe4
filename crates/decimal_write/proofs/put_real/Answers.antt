-- `decimal_write::put_real` meets its contract: the first byte, and the packed nibbles behind it.
use Rattle.std.proofs.Common.{arith, refl}
use Rattle.octets.specs.OutLaws.{writes_then, writes_as, writes-room}
use Rattle.decimal_write.specs.WrittenLaws.{real-bytes, packed-length}
use Rattle.decimal_write.proofs.put_real.Goals as goal

pub byte-requires : goal.byte-requires
byte-requires c = omega (arith, packed-length c.args.d _ refl)

pub overflow_sub-n : goal.overflow_sub-n
overflow_sub-n c = omega (arith, packed-length c.args.d _ refl)

pub put_packed-requires : goal.put_packed-requires
put_packed-requires c = (omega (arith, packed-length c.args.d _ refl), writes-room _ c.byte.ensures (omega (arith, packed-length c.args.d _ refl)))

pub returns : goal.returns
returns c = writes_as (writes_then (omega (arith, packed-length c.args.d _ refl)) c.byte.ensures c.put_packed.ensures) (real-bytes c.args.d)
