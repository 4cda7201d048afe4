-- `answer` meets its contract: each arm is the answer of its kind.
use Rattle.std.proofs.Common.{ap, sym, ℕ, ◌∙◌}
use Rattle.charstring_cases.specs.Answers.{answer_to}
use Rattle.charstring_cases.specs.AnswersLaws.{answer-none}
use Rattle.charstring_cases.proofs.answer.Goals as goal

pub returns-in-110 : goal.returns-in-110
unfolding answer_to
returns-in-110 c = c.answer_number.ensures ∙ ap (λ (k : ℕ). answer_to k c.args.input.now) (sym c.in-110.is)

pub returns-in-105 : goal.returns-in-105
unfolding answer_to
returns-in-105 c = c.answer_integer.ensures ∙ ap (λ (k : ℕ). answer_to k c.args.input.now) (sym c.in-105.is)

pub returns-in-102 : goal.returns-in-102
unfolding answer_to
returns-in-102 c = c.answer_fixed.ensures ∙ ap (λ (k : ℕ). answer_to k c.args.input.now) (sym c.in-102.is)

pub returns-in-116 : goal.returns-in-116
unfolding answer_to
returns-in-116 c = c.answer_stream.ensures ∙ ap (λ (k : ℕ). answer_to k c.args.input.now) (sym c.in-116.is)

pub returns-in-101 : goal.returns-in-101
unfolding answer_to
returns-in-101 c = c.answer_stream-in-101.ensures ∙ ap (λ (k : ℕ). answer_to k c.args.input.now) (sym c.in-101.is)

pub returns-in-98 : goal.returns-in-98
unfolding answer_to
returns-in-98 c = c.answer_bias.ensures ∙ ap (λ (k : ℕ). answer_to k c.args.input.now) (sym c.in-98.is)

pub returns-in_default : goal.returns-in_default
returns-in_default c = let m = c.in_default.in_default-own.rest in sym (answer-none _ _ m.0.0.0.0.0.1 m.0.0.0.0.1 m.0.0.0.1 m.0.0.1 m.0.1 m.1)
