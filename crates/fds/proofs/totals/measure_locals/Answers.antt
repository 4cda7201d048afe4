-- `totals::measure_locals` meets its contract.
use Rattle.std.proofs.Common.{arith, refl, true, ◌≡◌}
use Rattle.fds.specs.Locals.{in_use_lem}
use Rattle.fds.specs.UsedLaws.{not_used, is_used}
use Rattle.fds.specs.NewLocalsLaws.{fd_in, summing_start, summing_pass, summing_take, summing_fails, summing_done}
use Rattle.fds.proofs.totals.measure_locals.Goals as goal
use Rattle.fds.proofs.totals.measure_locals.Goals.{Then-used-fd-ne0, then-used-fd-ne0+in-Some, else-used-fd-ne0}

in_use : (e : Then-used-fd-ne0) → in_use_lem e.args.fds.now.used.now e.loop-fd.fd ≡ true
in_use e = is_used e.args.fds.now.used.now e.loop-fd.fd e.if-used-fd-ne0.true

pub loop-fd-init : goal.loop-fd-init
loop-fd-init c = summing_start _ _ _ _ _ _ _ _

pub locals_total-requires : goal.locals_total-requires
locals_total-requires c =
    fd_in _ _ _ _ _ _ _ _ c.args.fds.now.held c.requires.0 _ c.loop-fd-test.true (in_use (goal.at.locals_total-requires c).Then-used-fd-ne0) _ refl

pub returns-in-None : goal.returns-in-None
returns-in-None c =
    summing_fails _ _ _ _ _ _ _ _ _ c.loop-fd.invariant (in_use (goal.at.returns-in-None c).Then-used-fd-ne0) _ refl _ c.locals_total.ensures.0 c.loop-fd-test.true c.in-None.is _

pub loop-fd-preserved : goal.loop-fd-preserved
loop-fd-preserved c =
    let i = c.loop-fd.invariant in
    elim c.if-used-fd-ne0.branch [
      | then-used-fd-ne0+in-Some w ↦
          rw w.totals-is (summing_take _ _ _ _ _ _ _ _ _ i (is_used c.args.fds.now.used.now c.loop-fd.fd w.if-used-fd-ne0.true) _ refl _ w.locals_total.ensures.0 w.locals_total.ensures.1 _ w.in-Some.is
          (omega (arith, c.loop-fd-test.true, c.loop-fd.auto.totals, c.requires.1)))
      | else-used-fd-ne0 w ↦ rw w.totals-is (summing_pass _ _ _ _ _ _ _ _ _ i (not_used c.args.fds.now.used.now c.loop-fd.fd w.if-used-fd-ne0.false))
    ]

pub returns : goal.returns
returns c = summing_done _ _ _ _ _ _ _ _ _ c.loop-fd.invariant (omega (arith, c.loop-fd-test.false))
