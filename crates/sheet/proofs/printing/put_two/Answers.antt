-- `printing::put_two` meets its contract: one byte after the other.
use Rattle.std.proofs.Common.{arith, ◌%◌, ◌/◌}
use Rattle.octets.specs.OutLaws.{writes_then, writes_as}
use Rattle.sheet.specs.Printing.{text-pair, text-length}
use Rattle.sheet.proofs.printing.put_two.Goals as goal

pub put_octet-requires-2 : goal.put_octet-requires-2
put_octet-requires-2 c = omega (arith, c.put_octet.ensures.wrote.behind, c.put_octet.ensures.size, text-length (c.args.v / 256 % 256))

pub returns : goal.returns
returns c = writes_as (writes_then (omega arith) c.put_octet.ensures c.put_octet-2.ensures) (text-pair c.args.v)
