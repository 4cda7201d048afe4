-- `answer_named` meets its contract: the name stands behind its length.
use Rattle.std.proofs.Common.{sym, ◌∙◌}
use Rattle.subset_cases.specs.SubsetCasesLaws.{named-short, named-cut, named-found}
use Rattle.subset_cases.proofs.answer_named.Goals as goal

pub returns-then-n-lt1 : goal.returns-then-n-lt1
returns-then-n-lt1 c = sym (named-short _ _ _ c.if-n-lt1.true)

pub returns-then-n-end : goal.returns-then-n-end
returns-then-n-end c = sym (named-cut _ _ _ c.if-n-lt1.false _ c.u8_at-end.ensures.0 c.if-n-end.true)

pub returns : goal.returns
returns c = c.answer_kept.ensures ∙ sym (named-found _ _ _ c.if-n-lt1.false _ c.u8_at-end.ensures.0 c.if-n-end.false)
