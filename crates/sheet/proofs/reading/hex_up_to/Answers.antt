-- `reading::hex_up_to` meets its contract: a case of `hex_up_to` each.
use Rattle.std.proofs.Common.{◌∙◌}
use Rattle.sheet.specs.ReadingLaws.{up_to, up_to_not}
use Rattle.sheet.proofs.reading.hex_up_to.Goals as goal

pub returns-then-line-n : goal.returns-then-line-n
returns-then-line-n c = c.is_hex.ensures ∙ up_to _ _ c.if-line-n.true

pub returns-else-line-n : goal.returns-else-line-n
returns-else-line-n c = up_to_not _ _ c.if-line-n.false
