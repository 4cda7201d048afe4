-- `numbers::put_limits` meets its contract.
use Rattle.std.proofs.Common.{arith}
use Rattle.checker.specs.NumberLaws.{limits-start, limits_done, limits-passed, limits-put}
use Rattle.checker.proofs.numbers.put_limits.Goals as goal
use Rattle.checker.proofs.numbers.put_limits.Goals.{then-glyphs-g-ne0, else-glyphs-g-ne0}

pub loop-g-init : goal.loop-g-init
loop-g-init c = limits-start _ _ c.requires

pub put_limit-requires : goal.put_limit-requires
put_limit-requires c = (c.loop-g-test.true, c.loop-g.invariant.known)

pub loop-g-preserved : goal.loop-g-preserved
loop-g-preserved c =
    let v = c.loop-g.invariant in
    elim c.if-glyphs-g-ne0.branch [
      | then-glyphs-g-ne0 w ↦ rw w.limits-is (limits-put _ _ _ v c.loop-g-test.true w.if-glyphs-g-ne0.true _ w.put_limit.ensures)
      | else-glyphs-g-ne0 w ↦ rw w.limits-is (limits-passed _ _ _ v c.loop-g-test.true w.if-glyphs-g-ne0.false)
    ]

pub returns : goal.returns
returns c = limits_done _ _ _ c.loop-g.invariant (omega (arith, c.loop-g-test.false))
