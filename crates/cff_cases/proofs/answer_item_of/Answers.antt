-- `cff_cases::answer_item_of` meets its contract: the refusal, or no refusal and the item.
use Rattle.std.proofs.Common.{List, ap, sym, ◌++◌, ◌∙◌, Some, ℕ}
use Rattle.cff_cases.specs.CffCasesLaws.{of-kind_refused, of-kind_long, of-kind-found}
use Rattle.cff_cases.proofs.answer_item_of.Goals as goal

pub returns-in-Err : goal.returns-in-Err
returns-in-Err c = ap Some c.one.ensures ∙ sym (of-kind_refused _ _ _ _ c.in-Err.ensures _ c.number.ensures)

pub returns-then-item-gt4095 : goal.returns-then-item-gt4095
returns-then-item-gt4095 c = sym (of-kind_long _ _ _ _ c.in_default.ensures _ c.item-item.ensures.0 c.if-item-gt4095.true)

pub returns : goal.returns
returns c =
    ap Some (c.copy.ensures.0 ∙ ap (λ (l : List ℕ). l ++ c.item-item.result.now) c.one-answer.ensures)
    ∙ sym (of-kind-found _ _ _ _ c.in_default.ensures _ c.item-item.ensures.0 c.if-item-gt4095.false)
