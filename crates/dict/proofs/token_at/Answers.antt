-- `dict::token_at` meets its contract: a number is an operand, and what is no number is an operator or refused.
use Rattle.std.specs.Prelude.{◌≡◌}
use Rattle.refusal.specs.HandedOn.{handed_on}
use Rattle.dict.specs.Dict.{token_at}
use Rattle.dict.specs.Places.{token_told}
use Rattle.dict.specs.TokenLaws.{token_refused, token_operand, token-operator}
use Rattle.dict.proofs.token_at.Goals as goal

pub returns-in_err-next : goal.returns-in_err-next
returns-in_err-next c =
    handed_on _ _ (λ q. q ≡ token_told (token_at c.args.d.now c.args.at)) c.from_residual.ensures.1 (token_refused _ _ _ c.past_number.ensures _ c.in_err-next.was)

pub returns-in-Some : goal.returns-in-Some
returns-in-Some c = token_operand _ _ _ c.past_number.ensures _ (cc)

pub returns-in-None : goal.returns-in-None
returns-in-None c = token-operator _ _ _ c.past_number.ensures _ (cc) c.operator_at.ensures
