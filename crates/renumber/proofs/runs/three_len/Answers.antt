-- `renumber::runs::three_len` meets its contract: where the bytes are there, the test of the definition on them.
use Rattle.std.proofs.Common.{arith, ◌∙◌}
use Rattle.renumber.specs.ShortLaws.{three-cut, three-told}
use Rattle.renumber.proofs.runs.three_len.Goals as goal

pub returns-then-p-at-lt3 : goal.returns-then-p-at-lt3
returns-then-p-at-lt3 c = three-cut _ _ (omega arith)

pub returns : goal.returns
returns c = c.then_some.ensures ∙ three-told _ _ (omega arith) _ _ c.is_three.ensures (omega arith)
