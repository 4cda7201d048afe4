-- `left::judge` meets its contract: the answer, where the work words are as they should be.
use Rattle.std.proofs.Common.{sym, ◌∙◌}
use Rattle.subset_cases.specs.LeftLaws.{judged-kept, judged-changed}
use Rattle.subset_cases.proofs.left.judge.Goals as goal

pub returns-then-words_left : goal.returns-then-words_left
returns-then-words_left c = c.of_call.ensures ∙ sym (judged-kept _ _ _ _ _ c.zeroed.ensures (sym c.words_left.ensures ∙ c.if-words_left.true))

pub returns : goal.returns
returns c = sym (judged-changed _ _ _ _ _ c.zeroed.ensures (sym c.words_left.ensures ∙ c.if-words_left.false))
