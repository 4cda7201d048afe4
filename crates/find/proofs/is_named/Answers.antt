-- `find::is_named` meets its contract: a standard string is told by its id, another by its text.
use Rattle.std.proofs.Common.{ap, ◌∙◌, List, ℕ}
use Rattle.strings.specs.Text.{same_text_lem}
use Rattle.find.specs.FindLaws.{named-standard}
use Rattle.find.proofs.is_named.Goals as goal

pub returns-then-id-lt391 : goal.returns-then-id-lt391
returns-then-id-lt391 c = named-standard _ c.args.id _ c.args.sid c.if-id-lt391.true c.requires _ c.is_standard.ensures

pub returns : goal.returns
returns c = c.same_text.ensures ∙ ap (λ (x : List ℕ). same_text_lem x c.args.name.now) c.own_text.ensures
