-- `answers::answer` meets its contract: a letter is answered by the crate that has it.
use Rattle.std.proofs.Common.{sym, ◌∙◌}
use Rattle.cases.specs.Tally.{is_one_of}
use Rattle.replay.specs.AnswersLaws.{answer_charstring, answer-format, answer_cff, answer-subset, answer-none}
use Rattle.replay.proofs.answers.answer.Goals as goal

pub returns-then-contains : goal.returns-then-contains
unfolding is_one_of
returns-then-contains c = c.answer.ensures ∙ sym (answer_charstring _ _ (sym c.contains.ensures.value ∙ c.if-contains.true))

pub returns-then-contains-2 : goal.returns-then-contains-2
unfolding is_one_of
returns-then-contains-2 c = c.answer-then-contains-2.ensures ∙ sym (answer-format _ _ (sym c.contains.ensures.value ∙ c.if-contains.false) (sym c.contains-2.ensures.value ∙ c.if-contains-2.true))

pub returns-then-contains-3 : goal.returns-then-contains-3
unfolding is_one_of
returns-then-contains-3 c = c.answer-then-contains-3.ensures ∙ sym (answer_cff _ _ (sym c.contains.ensures.value ∙ c.if-contains.false) (sym c.contains-2.ensures.value ∙ c.if-contains-2.false) (sym c.contains-3.ensures.value ∙ c.if-contains-3.true))

pub returns-then-contains-4 : goal.returns-then-contains-4
unfolding is_one_of
returns-then-contains-4 c = c.answer-then-contains-4.ensures ∙ sym (answer-subset _ _ (sym c.contains.ensures.value ∙ c.if-contains.false) (sym c.contains-2.ensures.value ∙ c.if-contains-2.false) (sym c.contains-3.ensures.value ∙ c.if-contains-3.false) (sym c.contains-4.ensures.value ∙ c.if-contains-4.true))

pub returns : goal.returns
unfolding is_one_of
returns c = sym (answer-none _ _ (sym c.contains.ensures.value ∙ c.if-contains.false) (sym c.contains-2.ensures.value ∙ c.if-contains-2.false) (sym c.contains-3.ensures.value ∙ c.if-contains-3.false) (sym c.contains-4.ensures.value ∙ c.if-contains-4.false))
