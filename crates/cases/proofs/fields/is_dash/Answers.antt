-- `fields::is_dash` meets its contract: its test is that of `is_dash`.
use Rattle.std.proofs.Common.{List, [], ap, eqb, rules, ℕ, ◌∙◌, ◌∷◌, ◌≡◌}
use Rattle.std.specs.Cmp.Lexicographic.{pointwise}
use Rattle.cases.specs.Fields.{is_dash}
use Rattle.cases.proofs.fields.is_dash.Goals as goal

dashed : (t : List ℕ) → pointwise eqb t (45 ∷ []) ≡ is_dash t
unfolding is_dash
dashed [] = search rules
dashed (x ∷ []) = search rules
dashed (x ∷ y ∷ xs) = search rules

pub returns : goal.returns
returns c = c.eq.ensures ∙ ap (pointwise eqb c.args.text.now) c.as_slice.ensures ∙ dashed c.args.text.now
