-- `type2_number::put_tagged` meets its contract: one write after the other.
use Rattle.std.proofs.Common.{arith}
use Rattle.octets.specs.OutLaws.{writes_then}
use Rattle.type2_number.proofs.put_tagged.Goals as goal

pub returns : goal.returns
returns c = writes_then (omega arith) c.byte.ensures c.num.ensures
