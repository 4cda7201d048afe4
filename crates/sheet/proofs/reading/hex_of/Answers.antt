-- `reading::hex_of` meets its contract: a case of `hex_of` each.
use Rattle.std.proofs.Common.{◌∙◌}
use Rattle.sheet.specs.ReadingLaws.{of-same, of_other}
use Rattle.sheet.proofs.reading.hex_of.Goals as goal

pub returns-then-line-n : goal.returns-then-line-n
returns-then-line-n c = c.is_hex.ensures ∙ of-same _ _ c.if-line-n.true

pub returns-else-line-n : goal.returns-else-line-n
returns-else-line-n c = of_other _ _ c.if-line-n.false
