-- `count` meets its contract: the ones of the words are the glyphs that have their bit.
use Rattle.order_window.specs.WindowLaws.{ones-kept}
use Rattle.order_window.proofs.count.Goals as goal

pub returns : goal.returns
returns c =
    ones-kept c.args.words.now (λ i. (c.type_inv.words i).fits) c.args.n _ _ c.words_for-q.ensures.0 c.requires.2 c.whole_ones.ensures.0
