-- `Answer::byte` meets its contract: what is written stands behind what was there.
use Rattle.std.proofs.Common.{ap, length, length-append, rules, ◌∙◌}
use Rattle.cases.specs.AnswersLaws.{wrote_behind}
use Rattle.cases.proofs.answer.Answer.byte.Goals as goal

pub returns : goal.returns
returns c =
    let e = wrote_behind (search rules) c.put_byte-self-inside.ensures c.self.view_is in
    (e, ap length e ∙ length-append _ _)
