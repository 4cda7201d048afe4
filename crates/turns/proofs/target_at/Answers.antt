-- `turns::target_at` meets its contract: step by step as `target_of`.
use Rattle.std.proofs.Common.{sym, ◌∙◌}
use Rattle.turns.specs.TargetLaws.{no_number, no_name, named}
use Rattle.turns.proofs.target_at.Goals as goal

pub returns-in_err-number_before : goal.returns-in_err-number_before
returns-in_err-number_before c = c.from_residual.ensures ∙ no_number _ _ (sym c.number_before.ensures ∙ c.in_err-number_before.was)

pub returns-in_err-number : goal.returns-in_err-number
returns-in_err-number c = c.from_residual-in_err-number.ensures ∙ no_name _ _ _ (sym c.number_before.ensures ∙ c.in_ok-number_before.was) (sym c.number_named.ensures ∙ c.in_err-number.was)

pub returns : goal.returns
returns c = c.then_some.ensures ∙ named _ _ _ (sym c.number_before.ensures ∙ c.in_ok-number_before.was) _ (sym c.number_named.ensures ∙ c.in_ok-number.was)
