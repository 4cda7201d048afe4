-- `renumber::runs::five_len` meets its contract: where the bytes are there, the test of the definition on them.
use Rattle.std.proofs.Common.{arith, ◌∙◌}
use Rattle.renumber.specs.ShortLaws.{five_cut, five_told}
use Rattle.renumber.proofs.runs.five_len.Goals as goal

pub returns-then-p-at-lt5 : goal.returns-then-p-at-lt5
returns-then-p-at-lt5 c = five_cut _ _ (omega arith)

pub returns : goal.returns
returns c = c.then_some.ensures ∙ five_told _ _ (omega arith) _ _ _ c.is_five.ensures (omega arith) (omega arith)
