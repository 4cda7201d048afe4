-- `printing::put_head` meets its contract: way, length and line feed in a row.
use Rattle.std.proofs.Common.{arith}
use Rattle.octets.specs.OutLaws.{writes_then, writes_as}
use Rattle.sheet.specs.Printing.{head-parts, text-length, four-length}
use Rattle.sheet.proofs.printing.put_head.Goals as goal

pub put_four-requires : goal.put_four-requires
put_four-requires c = omega (arith, c.put_octet.ensures.wrote.behind, c.put_octet.ensures.size, text-length c.args.way)

pub byte-requires : goal.byte-requires
byte-requires c = omega (arith, c.put_four.ensures.wrote.behind, c.put_four.ensures.size, c.put_octet.ensures.wrote.behind, c.put_octet.ensures.size, text-length c.args.way, four-length c.args.n)

pub returns : goal.returns
returns c =
    writes_as (writes_then (omega arith) c.put_octet.ensures (writes_then (omega (arith, c.put_octet.ensures.wrote.behind, c.put_octet.ensures.size, text-length c.args.way)) c.put_four.ensures c.byte.ensures))
    (head-parts c.args.way c.args.n)
