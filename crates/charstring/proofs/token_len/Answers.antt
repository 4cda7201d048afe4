-- `charstring::token_len` meets its contract: the lengths of the cases of `tok_bytes`.
use Rattle.std.proofs.Common.{ap, length, sym, ◌∙◌}
use Rattle.type2_number.specs.Encoding.{encoded}
use Rattle.charstring.specs.Answers.{token_len_lem}
use Rattle.charstring.specs.TokenLaws.{measurable_as}
use Rattle.charstring.proofs.token_len.Goals as goal

pub of-requires : goal.of-requires
of-requires c = measurable_as _ _ c.in-Num.is c.requires

pub returns-in-Num : goal.returns-in-Num
returns-in-Num c = c.number_len.ensures ∙ ap (λ z. length (encoded z)) c.of.ensures ∙ ap token_len_lem (sym c.in-Num.is)
