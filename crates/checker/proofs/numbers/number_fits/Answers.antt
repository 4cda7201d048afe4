-- `numbers::number_fits` meets its contract, test by test.
use Rattle.std.proofs.Common.{eq-eqb, ne_eqb}
use Rattle.checker.proofs.numbers.number_fits.Goals as goal

pub returns-then-r-eq0 : goal.returns-then-r-eq0
returns-then-r-eq0 c = rw (eq-eqb _ _ c.if-r-eq0.true) c.is_below.ensures

pub returns-then-r-eq1 : goal.returns-then-r-eq1
returns-then-r-eq1 c = rw (ne_eqb _ _ c.if-r-eq0.false, eq-eqb _ _ c.if-r-eq1.true)

pub returns : goal.returns
returns c = rw (ne_eqb _ _ c.if-r-eq0.false, ne_eqb _ _ c.if-r-eq1.false)
