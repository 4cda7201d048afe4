-- `answer_bias` meets its contract: the bias of the count.
use Rattle.std.proofs.Common.{Some, ap, sym, ◌∙◌}
use Rattle.octets.specs.Octets.{bytes_of}
use Rattle.charstring.specs.Bias.{bias_of}
use Rattle.charstring_cases.specs.AnswersLaws.{bias_size, bias_found}
use Rattle.charstring_cases.proofs.answer_bias.Goals as goal

pub returns-then-input-ne4 : goal.returns-then-input-ne4
returns-then-input-ne4 c = sym (bias_size c.args.input.now c.if-input-ne4.true)

pub returns : goal.returns
returns c =
    ap Some (rw (c.num.ensures.0, c.new-answer.ensures) (ap (bytes_of 4) (c.bias.ensures ∙ ap bias_of c.u32_at.ensures.0)))
    ∙ sym (bias_found c.args.input.now c.if-input-ne4.false)
