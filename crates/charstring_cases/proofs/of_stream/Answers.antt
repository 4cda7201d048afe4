-- `of_stream` meets its contract: the flag tells the kind.
use Rattle.std.proofs.Common.{false, true, ◌∙◌}
use Rattle.charstring_cases.specs.AnswersLaws.{stream_as}
use Rattle.charstring_cases.proofs.of_stream.Goals as goal

pub returns-then-tokens : goal.returns-then-tokens
returns-then-tokens c = c.of_tokens.ensures ∙ stream_as _ true _ _ c.if-tokens.true

pub returns : goal.returns
returns c = c.of_recoded.ensures ∙ stream_as _ false _ _ c.if-tokens.false
