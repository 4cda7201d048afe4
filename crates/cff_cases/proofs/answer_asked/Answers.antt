-- `cff_cases::answer_asked` meets its contract: each arm is the answer of its kind.
use Rattle.std.proofs.Common.{ap, sym, ◌∙◌, ℕ}
use Rattle.cff_cases.specs.CffCases.{asked_answer}
use Rattle.cff_cases.specs.CffCasesLaws.{asked-none}
use Rattle.cff_cases.proofs.answer_asked.Goals as goal

pub returns-in-82 : goal.returns-in-82
unfolding asked_answer
returns-in-82 c = c.answer_read.ensures ∙ ap (λ (k : ℕ). asked_answer k c.args.font.now c.args.asked.now) (sym c.in-82.is)

pub returns-in-78 : goal.returns-in-78
unfolding asked_answer
returns-in-78 c = c.answer_name.ensures ∙ ap (λ (k : ℕ). asked_answer k c.args.font.now c.args.asked.now) (sym c.in-78.is)

pub returns-in-67 : goal.returns-in-67
unfolding asked_answer
returns-in-67 c = c.answer_cid.ensures ∙ ap (λ (k : ℕ). asked_answer k c.args.font.now c.args.asked.now) (sym c.in-67.is)

pub returns-in-73 : goal.returns-in-73
unfolding asked_answer
returns-in-73 c = c.answer_item.ensures ∙ ap (λ (k : ℕ). asked_answer k c.args.font.now c.args.asked.now) (sym c.in-73.is)

pub returns-in_default : goal.returns-in_default
returns-in_default c = let m = c.in_default.in_default-own.rest in sym (asked-none _ _ _ m.0.0.0.1 m.0.0.1 m.0.1 m.1)
