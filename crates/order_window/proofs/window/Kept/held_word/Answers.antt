-- `Kept::held_word` meets its contract: where the window holds a place, it has the order's word.
use Rattle.std.proofs.Common.{◌∙◌}
use Rattle.order_window.specs.WindowLaws.{held_word}
use Rattle.order_window.proofs.window.Kept.held_word.Goals as goal

pub returns : goal.returns
returns c =
    (c.word_at.ensures.0 ∙ held_word _ _ _ _ _ c.args.self.now.gathered.holds _ c.requires.0 c.requires.1, c.word_at.ensures.1)
