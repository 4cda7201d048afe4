-- `printing::put_cell` meets its contract: the line feed stands behind the 16th byte.
use Rattle.std.proofs.Common.{arith}
use Rattle.octets.specs.OutLaws.{writes_then, writes_as}
use Rattle.sheet.specs.Printing.{cell-last, cell_inner, last-length, inner_length, text-length}
use Rattle.sheet.proofs.printing.put_cell.Goals as goal

pub put_octet-requires : goal.put_octet-requires
put_octet-requires c = omega (arith, last-length c.args.b c.args.col c.if-col-eq15.true)

pub byte-requires : goal.byte-requires
byte-requires c = omega (arith, c.put_octet.ensures.wrote.behind, c.put_octet.ensures.size, text-length c.args.b, last-length c.args.b c.args.col c.if-col-eq15.true)

pub returns-then-col-eq15 : goal.returns-then-col-eq15
returns-then-col-eq15 c = writes_as (writes_then (omega arith) c.put_octet.ensures c.byte.ensures) (cell-last c.args.b c.args.col c.if-col-eq15.true)

pub put_octet-requires-2 : goal.put_octet-requires-2
put_octet-requires-2 c = omega (arith, inner_length c.args.b c.args.col c.if-col-eq15.false)

pub returns : goal.returns
returns c = writes_as c.put_octet-2.ensures (cell_inner c.args.b c.args.col c.if-col-eq15.false)
