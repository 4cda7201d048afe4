-- `renumber::runs::is_five` meets its contract: the tests of the definition, in its order.
use Rattle.std.proofs.Common.{eq-eqb, le-ltb, lt-ltb, ne_eqb}
use Rattle.renumber.specs.Run.{is_five_lem}
use Rattle.renumber.proofs.runs.is_five.Goals as goal

pub returns-then-low-eq0 : goal.returns-then-low-eq0
unfolding is_five_lem
returns-then-low-eq0 c = simp (eq-eqb _ _ c.if-low-eq0.true)

pub returns-then-high-lt256 : goal.returns-then-high-lt256
unfolding is_five_lem
returns-then-high-lt256 c = simp (ne_eqb _ _ c.if-low-eq0.false, lt-ltb _ _ c.if-high-lt256.true)

pub returns : goal.returns
unfolding is_five_lem
returns c = simp (ne_eqb _ _ c.if-low-eq0.false, le-ltb _ _ c.if-high-lt256.false)
