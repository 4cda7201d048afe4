-- `taking::keep_byte` meets its contract: a byte that is kept is stored, or there are too many.
use Rattle.std.proofs.Common.{sym, ◌∙◌}
use Rattle.sheet.specs.TakingLaws.{held-dropped, held-stored, held-over}
use Rattle.sheet.proofs.taking.keep_byte.Goals as goal

pub returns-then-ends_empty : goal.returns-then-ends_empty
returns-then-ends_empty c = λ kept. held-dropped _ _ _ _ kept (sym c.ends_empty.ensures ∙ c.if-ends_empty.true)

pub returns-then-len-lt48134 : goal.returns-then-len-lt48134
returns-then-len-lt48134 c = λ kept. held-stored _ _ _ _ kept (sym c.ends_empty.ensures ∙ c.if-ends_empty.false) c.if-len-lt48134.true c.requires

pub returns : goal.returns
returns c = λ kept. held-over _ _ _ _ kept (sym c.ends_empty.ensures ∙ c.if-ends_empty.false) c.if-len-lt48134.false
