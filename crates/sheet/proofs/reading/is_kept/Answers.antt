-- `reading::is_kept` meets its contract: a case of `is_kept` each.
use Rattle.std.proofs.Common.{◌∙◌}
use Rattle.sheet.specs.ReadingLaws.{kept_fours, kept_not}
use Rattle.sheet.proofs.reading.is_kept.Goals as goal

pub returns-then-line-eq0 : goal.returns-then-line-eq0
returns-then-line-eq0 c = c.hex_up_to.ensures ∙ kept_fours _ c.if-line-eq0.true

pub returns-else-line-eq0 : goal.returns-else-line-eq0
returns-else-line-eq0 c = kept_not _ c.if-line-eq0.false
