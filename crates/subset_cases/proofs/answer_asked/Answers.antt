-- `answer_asked` meets its contract: each arm is the answer of its kind.
use Rattle.std.proofs.Common.{ap, ℕ, sym, ◌∙◌}
use Rattle.subset_cases.specs.SubsetCases.{asked_answer}
use Rattle.subset_cases.specs.SubsetCasesLaws.{asked-none}
use Rattle.subset_cases.proofs.answer_asked.Goals as goal

pub returns-in-83 : goal.returns-in-83
unfolding asked_answer
returns-in-83 c = c.answer_named.ensures ∙ ap (λ (k : ℕ). asked_answer k c.args.font.now c.args.asked.now) (sym c.in-83.is)

pub returns-in-68 : goal.returns-in-68
unfolding asked_answer
returns-in-68 c = c.answer_named-in-68.ensures ∙ ap (λ (k : ℕ). asked_answer k c.args.font.now c.args.asked.now) (sym c.in-68.is)

pub returns-in_default : goal.returns-in_default
returns-in_default c = let m = c.in_default.in_default-own.rest in sym (asked-none _ _ _ m.0.1 m.1)
