-- `cff_cases::answer_item` meets its contract: a kind that there is, and the item of its number.
use Rattle.std.proofs.Common.{sym, ◌∙◌}
use Rattle.cff_cases.specs.CffCasesLaws.{item-size, item-kind, item-found}
use Rattle.cff_cases.proofs.answer_item.Goals as goal

pub returns-then-kind-gt2 : goal.returns-then-kind-gt2
returns-then-kind-gt2 c = sym (item-kind _ _ c.if-asked-eq5.true c.if-kind-gt2.true)

pub returns-then-asked-eq5 : goal.returns-then-asked-eq5
returns-then-asked-eq5 c = c.answer_item_of.ensures ∙ sym (item-found _ _ c.if-asked-eq5.true c.if-kind-gt2.false _ c.kind_of.ensures _ c.u32_at-number.ensures.0)

pub returns : goal.returns
returns c = sym (item-size _ _ c.if-asked-eq5.false)
