-- `reading::flag_of` meets its contract: the byte of two digits.
use Rattle.std.proofs.Common.{arith}
use Rattle.sheet.specs.PartsLaws.{flag-two, flag-value}
use Rattle.sheet.proofs.reading.flag_of.Goals as goal

pub bounds-line-0 : goal.bounds-line-0
bounds-line-0 c = omega (arith, flag-two c.args.line.now c.requires)

pub bounds-line-1 : goal.bounds-line-1
bounds-line-1 c = omega (arith, flag-two c.args.line.now c.requires)

pub returns : goal.returns
returns c = flag-value c.args.line.now c.requires _ c.octet_of.ensures
