-- `decimal_write::put_tagged` meets its contract: one write after the other.
use Rattle.std.proofs.Common.{arith}
use Rattle.octets.specs.OutLaws.{writes_then, writes-room}
use Rattle.decimal_write.proofs.put_tagged.Goals as goal

pub num-requires : goal.num-requires
num-requires c = writes-room _ c.byte.ensures (omega arith)

pub returns : goal.returns
returns c = writes_then (omega arith) c.byte.ensures c.num.ensures
