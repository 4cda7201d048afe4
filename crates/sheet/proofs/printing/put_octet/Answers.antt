-- `printing::put_octet` meets its contract: two digits, stored.
use Rattle.octets.specs.OutLaws.{writes_as}
use Rattle.sheet.specs.Printing.{text-two}
use Rattle.sheet.proofs.printing.put_octet.Goals as goal

pub returns : goal.returns
returns c = writes_as c.pair.ensures (text-two c.args.b _ _ c.digit-high.ensures c.digit-low.ensures)
