-- `printing::put_refused` meets its contract: `ff`, the number and a line feed in a row.
use Rattle.std.proofs.Common.{arith, rules}
use Rattle.octets.specs.PutLaws.{wrote_as}
use Rattle.octets.specs.OutLaws.{writes_then, writes_lent}
use Rattle.sheet.specs.Printing.{refused_parts, text-length}
use Rattle.sheet.proofs.printing.put_refused.Goals as goal

pub put_octet-requires-2 : goal.put_octet-requires-2
put_octet-requires-2 c = omega (arith, c.put_octet.ensures.wrote.behind, c.put_octet.ensures.size, text-length 255)

pub byte-requires : goal.byte-requires
byte-requires c = omega (arith, c.put_octet-2.ensures.wrote.behind, c.put_octet-2.ensures.size, c.put_octet.ensures.wrote.behind, c.put_octet.ensures.size, text-length 255, text-length c.args.n)

pub returns : goal.returns
returns c =
    wrote_as (writes_lent (writes_then (omega arith) c.put_octet.ensures (writes_then (omega (arith, c.put_octet.ensures.wrote.behind, c.put_octet.ensures.size, text-length 255)) c.put_octet-2.ensures c.byte.ensures)) (search rules))
    (refused_parts c.args.n)
