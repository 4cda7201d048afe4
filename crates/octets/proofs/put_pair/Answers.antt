-- `octets::put_pair` meets its contract: one write after the other.
use Rattle.std.proofs.Common.{arith}
use Rattle.octets.specs.PutLaws.{wrote_then}
use Rattle.octets.proofs.put_pair.Goals as goal

pub returns : goal.returns
returns c = wrote_then (omega arith) c.put_byte-p.ensures c.put_byte.ensures
