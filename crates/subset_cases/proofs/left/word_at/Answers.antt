-- `left::word_at` meets its contract: zero below k.
use Rattle.std.proofs.Common.{le-ltb, lt-ltb}
use Rattle.subset_cases.proofs.left.word_at.Goals as goal

pub returns-then-i-k : goal.returns-then-i-k
returns-then-i-k c = simp (lt-ltb _ _ c.if-i-k.true)

pub returns : goal.returns
returns c = simp (le-ltb _ _ c.if-i-k.false)
