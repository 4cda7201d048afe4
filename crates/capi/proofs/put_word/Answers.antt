-- `capi::put_word` meets its contract: the word is stored where there is room for it.
use Rattle.capi.specs.CapiLaws.{answers_word}
use Rattle.capi.proofs.put_word.Goals as goal

pub returns : goal.returns
returns c = answers_word _ _ c.if-answer-lt1.false
