-- `fields::holds` meets its contract: the field is read, and its bytes are compared.
use Rattle.std.proofs.Common.{ap, length-take-le, rules, sym, ℕ, ◌≡◌, Some}
use Rattle.std.proofs.lemmas.Bool.Decides.{Decides-eqb}
use Rattle.std.proofs.lemmas.Slice.Eq.{slice_eq-Decides}
use Rattle.cases.specs.Fields.{field_bytes, both_same}
use Rattle.cases.specs.AnswersLaws.{Lent, lent-some}
use Rattle.cases.specs.FieldsLaws.{field_done, field-bad, stored_same}
use Rattle.cases.proofs.fields.holds.Goals as goal
use Rattle.cases.proofs.fields.holds.Goals.{After-read_field}

field : (c : After-read_field) (k : ℕ) → c.read_field.result ≡ Some k → Lent (field_bytes 4096 c.args.text.now) c.read_field.new.out k
field c k e = field_done 4096 _ _ _ _ c.read_field.ensures (search rules) k e

pub slice_bounds-stored-end : goal.slice_bounds-stored-end
slice_bounds-stored-end c = (field (goal.at.slice_bounds-stored-end c).After-read_field _ c.in-Some.is).fits

pub slice_bounds-eq-end : goal.slice_bounds-eq-end
slice_bounds-eq-end c = sym (length-take-le _ _ (field (goal.at.slice_bounds-eq-end c).After-read_field _ c.in-Some.is).fits)

pub returns-in-Some : goal.returns-in-Some
returns-in-Some c =
    let d = slice_eq-Decides Decides-eqb _ _ _ c.eq.ensures in
    stored_same _ _ _ _ d.0 d.1 (lent-some (field (goal.at.returns-in-Some c).After-read_field _ c.in-Some.is))

pub returns-in-None : goal.returns-in-None
returns-in-None c = ap (both_same (Some _)) (sym (field-bad 4096 _ _ _ _ c.read_field.ensures (search rules) c.in-None.is))
