-- `lines::fields_agree` meets its contract: the input is read, and its answer compared.
use Rattle.std.proofs.Common.{List, ap, length-take-le, rules, sym, ℕ, ◌∙◌, ◌≡◌, Option, Some}
use Rattle.cases.specs.Fields.{field_bytes, both_same}
use Rattle.cases.specs.Lines.{answer_of}
use Rattle.cases.specs.AnswersLaws.{Lent, lent-some}
use Rattle.cases.specs.FieldsLaws.{field_done, field-bad}
use Rattle.replay.specs.Answers.{answer_to}
use Rattle.replay.proofs.lines.fields_agree.Goals as goal
use Rattle.replay.proofs.lines.fields_agree.Goals.{After-read_field}

field : (c : After-read_field) (k : ℕ) → c.read_field.result ≡ Some k → Lent (field_bytes 4096 c.args.text.now) c.read_field.new.out k
field c k e = field_done 4096 _ _ _ _ c.read_field.ensures (search rules) k e

pub slice_bounds-input-end : goal.slice_bounds-input-end
slice_bounds-input-end c = (field (goal.at.slice_bounds-input-end c).After-read_field _ c.in-Some.is).fits

pub slice_bounds-answer_agrees-end : goal.slice_bounds-answer_agrees-end
slice_bounds-answer_agrees-end c = sym (length-take-le _ _ (field (goal.at.slice_bounds-answer_agrees-end c).After-read_field _ c.in-Some.is).fits)

pub returns-in-Some : goal.returns-in-Some
returns-in-Some c = let a = c.args in c.answer_agrees.ensures ∙ ap (λ (o : Option (List ℕ)). both_same (answer_of answer_to a.kind o) (field_bytes 4096 a.stored.now)) (lent-some (field (goal.at.returns-in-Some c).After-read_field _ c.in-Some.is))

pub returns-in-None : goal.returns-in-None
returns-in-None c = let a = c.args in ap (λ (o : Option (List ℕ)). both_same (answer_of answer_to a.kind o) (field_bytes 4096 a.stored.now)) (sym (field-bad 4096 _ _ _ _ c.read_field.ensures (search rules) c.in-None.is))
