-- `answer` meets its contract: an input is a font and what is asked of it.
use Rattle.std.proofs.Common.{List, None, Some, ap, sym, ◌∙◌, ℕ}
use Rattle.subset_cases.specs.SubsetCases.{asked_answer}
use Rattle.subset_cases.specs.SubsetCasesLaws.{subset_parts}
use Rattle.subset_cases.proofs.answer.Goals as goal

pub returns-in_err-parts : goal.returns-in_err-parts
returns-in_err-parts c = c.from_residual.ensures ∙ subset_parts _ _ None (sym c.in_err-parts.was ∙ c.split.ensures)

pub returns : goal.returns
returns c =
    c.answer_asked.ensures ∙ ap (λ (p : List ℕ × List ℕ). asked_answer c.args.kind p.0 p.1) c.parts.view_is
    ∙ subset_parts _ _ (Some c.in_ok-parts.parts) (sym c.in_ok-parts.was ∙ c.split.ensures)
