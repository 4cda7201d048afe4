-- `printing::put_subset` meets its contract: the first line, then the bytes in lines.
use Rattle.std.proofs.Common.{arith, rules}
use Rattle.octets.specs.PutLaws.{wrote_as}
use Rattle.octets.specs.OutLaws.{writes_then, writes_lent}
use Rattle.sheet.specs.Printing.{way-parts, way-length, head-behind}
use Rattle.sheet.proofs.printing.put_subset.Goals as goal

pub put_head-requires : goal.put_head-requires
put_head-requires c = omega (arith, c.requires, way-length c.args.way c.args.bytes.now)

pub put_lines-requires : goal.put_lines-requires
put_lines-requires c = omega (arith, c.requires, way-length c.args.way c.args.bytes.now, head-behind _ _ c.put_head.ensures, c.put_head.ensures.size)

pub returns : goal.returns
returns c = wrote_as (writes_lent (writes_then (omega arith) c.put_head.ensures c.put_lines.ensures) (search rules)) (way-parts c.args.way c.args.bytes.now)
