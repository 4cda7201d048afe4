-- `fields::read_field` meets its contract: `-` is no bytes, any other field is hexadecimal.
use Rattle.std.proofs.Common.{sym, ◌∙◌}
use Rattle.cases.specs.FieldsLaws.{read-dash, read-hex}
use Rattle.cases.proofs.fields.read_field.Goals as goal

pub returns-then-is_dash : goal.returns-then-is_dash
returns-then-is_dash c = read-dash c.args.text.now c.args.out.now (sym c.is_dash.ensures ∙ c.if-is_dash.true)

pub returns : goal.returns
returns c = read-hex c.args.text.now c.args.out.now _ _ (sym c.is_dash.ensures ∙ c.if-is_dash.false) c.unhex.ensures
