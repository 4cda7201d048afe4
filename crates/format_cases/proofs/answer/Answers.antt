-- `answer` meets its contract: each arm is the answer of its kind.
use Rattle.std.proofs.Common.{ap, sym, ℕ, ◌∙◌}
use Rattle.format_cases.specs.Answers.{answer_to}
use Rattle.format_cases.specs.AnswersLaws.{answer-none}
use Rattle.format_cases.proofs.answer.Goals as goal

pub returns-in-120 : goal.returns-in-120
unfolding answer_to
returns-in-120 c = c.answer_index.ensures ∙ ap (λ (k : ℕ). answer_to k c.args.input.now) (sym c.in-120.is)

pub returns-in-100 : goal.returns-in-100
unfolding answer_to
returns-in-100 c = c.answer_dict.ensures ∙ ap (λ (k : ℕ). answer_to k c.args.input.now) (sym c.in-100.is)

pub returns-in-119 : goal.returns-in-119
unfolding answer_to
returns-in-119 c = c.answer_number.ensures ∙ ap (λ (k : ℕ). answer_to k c.args.input.now) (sym c.in-119.is)

pub returns-in-99 : goal.returns-in-99
unfolding answer_to
returns-in-99 c = c.answer_charset.ensures ∙ ap (λ (k : ℕ). answer_to k c.args.input.now) (sym c.in-99.is)

pub returns-in-115 : goal.returns-in-115
unfolding answer_to
returns-in-115 c = c.answer_fd_select.ensures ∙ ap (λ (k : ℕ). answer_to k c.args.input.now) (sym c.in-115.is)

pub returns-in_default : goal.returns-in_default
returns-in_default c = let m = c.in_default.in_default-own.rest in sym (answer-none _ _ m.0.0.0.0.1 m.0.0.0.1 m.0.0.1 m.0.1 m.1)
