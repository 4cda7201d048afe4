-- `index::offset_size` meets its contract: the tests that led to a return pick the case of `size_for`.
use Rattle.std.proofs.Common.{le-ltb, lt-ltb}
use Rattle.index.specs.Write.{size_for}
use Rattle.index.proofs.offset_size.Goals as goal

pub returns-then-v-lt256 : goal.returns-then-v-lt256
unfolding size_for
returns-then-v-lt256 c = simp (lt-ltb _ _ c.if-v-lt256.true)

pub returns-then-v-lt65536 : goal.returns-then-v-lt65536
unfolding size_for
returns-then-v-lt65536 c = simp (le-ltb _ _ c.if-v-lt256.false, lt-ltb _ _ c.if-v-lt65536.true)

pub returns-then-v-lt16777216 : goal.returns-then-v-lt16777216
unfolding size_for
returns-then-v-lt16777216 c = simp (le-ltb _ _ c.if-v-lt256.false, le-ltb _ _ c.if-v-lt65536.false, lt-ltb _ _ c.if-v-lt16777216.true)

pub returns : goal.returns
unfolding size_for
returns c = simp (le-ltb _ _ c.if-v-lt256.false, le-ltb _ _ c.if-v-lt65536.false, le-ltb _ _ c.if-v-lt16777216.false)
