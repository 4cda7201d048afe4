-- `plan::plan_bodies` meets its contract: measured by the way that is tried first, and by stubs where a part fails by it.
use Rattle.std.proofs.Common.{arith}
use Rattle.record.specs.Record.{rows_of}
use Rattle.order_window.specs.Stays.{stays-then}
use Rattle.plan.specs.MeasureLaws.{measured_again, measured_stays}
use Rattle.plan.specs.PlanLaws.{returns_first, returns_stubbed}
use Rattle.plan.proofs.plan_bodies.Goals as goal
use Rattle.subset.specs.declared.Way.TheVariants.{Stubbed}

pub returns-in-Some : goal.returns-in-Some
returns-in-Some c =
    (returns_first _ _ _ _ _ _ _ _ _ _ c.measure-m.ensures.0 _ c.in-Some.is _ c.planned.ensures, c.measure-m.ensures.1)

pub measure-s-requires : goal.measure-s-requires
measure-s-requires c =
    let a = c.args in (
      measured_again Stubbed _ _ c.measure-m.ensures.1 a.used.now a.how a.table.now (rows_of a.rows.now) c.requires.0,
      omega (arith, c.requires.1, c.measure-m.auto.sums),
    )

pub returns : goal.returns
returns c = (
  returns_stubbed _ _ _ _ _ _ _ _ _ _ c.measure-m.ensures.0 c.in_default.is _ _ (measured_stays _ _ c.measure-m.ensures.1 _ _ _ _ _ _ _ c.measure-s.ensures.0) _ _ c.unwrap_or.ensures _ c.planned-2.ensures,
  stays-then _ _ _ c.measure-m.ensures.1 c.measure-s.ensures.1,
)
