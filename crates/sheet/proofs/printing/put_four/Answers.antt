-- `printing::put_four` meets its contract: the high two bytes, then the low two.
use Rattle.std.proofs.Common.{arith, ◌/◌}
use Rattle.octets.specs.OutLaws.{writes_then, writes_as}
use Rattle.sheet.specs.Printing.{text-four, two-length}
use Rattle.sheet.proofs.printing.put_four.Goals as goal

pub put_two-requires-2 : goal.put_two-requires-2
put_two-requires-2 c = omega (arith, c.put_two.ensures.wrote.behind, c.put_two.ensures.size, two-length (c.args.v / 256 / 256))

pub returns : goal.returns
returns c = writes_as (writes_then (omega arith) c.put_two.ensures c.put_two-2.ensures) (text-four c.args.v)
