-- `renumber::runs::is_three` meets its contract: the tests of the definition, in its order.
use Rattle.std.proofs.Common.{eq-eqb, le-ltb, lt-ltb, ne_eqb}
use Rattle.renumber.specs.Run.{is_three_lem}
use Rattle.renumber.proofs.runs.is_three.Goals as goal

pub returns-then-n-lt1132 : goal.returns-then-n-lt1132
unfolding is_three_lem
returns-then-n-lt1132 c = simp (lt-ltb _ _ c.if-n-lt1132.true)

pub returns-then-n-eq32768 : goal.returns-then-n-eq32768
unfolding is_three_lem
returns-then-n-eq32768 c = simp (le-ltb _ _ c.if-n-lt1132.false, eq-eqb _ _ c.if-n-eq32768.true)

pub returns : goal.returns
unfolding is_three_lem
returns c = simp (le-ltb _ _ c.if-n-lt1132.false, ne_eqb _ _ c.if-n-eq32768.false)
