-- `lines::answer_agrees` meets its contract: our answer, where there is one, is compared with the stored field.
use Rattle.std.proofs.Common.{List, Option, Some, ap, sym, ◌∙◌, ℕ}
use Rattle.cases.specs.Fields.{field_bytes, both_same}
use Rattle.replay.proofs.lines.answer_agrees.Goals as goal

pub returns-in-Some : goal.returns-in-Some
returns-in-Some c =
    c.holds.ensures
    ∙ ap (λ (o : Option (List ℕ)). both_same o (field_bytes 4096 c.args.stored.now)) (ap Some c.bytes.ensures ∙ sym c.in-Some.is ∙ c.answer.ensures)

pub returns-in-None : goal.returns-in-None
returns-in-None c = ap (λ (o : Option (List ℕ)). both_same o (field_bytes 4096 c.args.stored.now)) (sym c.in-None.is ∙ c.answer.ensures)
