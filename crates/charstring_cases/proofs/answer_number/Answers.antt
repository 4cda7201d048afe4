-- `answer_number` meets its contract: each way out is a case of `number_answer`.
use Rattle.std.proofs.Common.{Some, append_assoc, ap, sym, ◌∙◌}
use Rattle.charstring_cases.specs.AnswersLaws.{number-none, number_cut, number-operator, number_read}
use Rattle.charstring_cases.proofs.answer_number.Goals as goal

pub returns-then-input-eq0 : goal.returns-then-input-eq0
returns-then-input-eq0 c = sym (number-none c.args.input.now c.if-input-eq0.true)

pub returns-in-Cut : goal.returns-in-Cut
returns-in-Cut c = ap Some c.one.ensures ∙ sym (number_cut c.args.input.now c.if-input-eq0.false _ c.read_number.ensures c.in-Cut.is)

pub returns-in-Operator : goal.returns-in-Operator
returns-in-Operator c = ap Some c.one-in-Operator.ensures ∙ sym (number-operator c.args.input.now c.if-input-eq0.false _ c.read_number.ensures c.in-Operator.is)

pub returns-in-Num : goal.returns-in-Num
returns-in-Num c =
    ap Some (simp (c.num.ensures.0, c.put_count.ensures.0, c.one-answer.ensures, append_assoc))
    ∙ sym (number_read c.args.input.now c.if-input-eq0.false _ c.read_number.ensures _ _ c.in-Num.is)
