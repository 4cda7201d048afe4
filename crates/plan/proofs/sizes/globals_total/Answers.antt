-- `plan::sizes::globals_total` meets its contract: the globals call local subroutines by the ranks across.
use Rattle.std.proofs.Common.{subst, sym}
use Rattle.record.specs.Record.{rows_of}
use Rattle.renumber.specs.declared.Ranks.{Ranks}
use Rattle.bodies.specs.Ways.{SubrsIn}
use Rattle.reach.specs.declared.Subrs.TheVariants.{Global}
use Rattle.plan.specs.Held.{program, written}
use Rattle.plan.specs.MeasureLaws.{globals-measured}
use Rattle.plan.proofs.sizes.globals_total.Goals as goal

pub invariant_of-all : goal.invariant_of-all
invariant_of-all c =
    let b = c.args.b.now in
    let k = b.how in
    record {
      sourced = subst (λ (q : Ranks). SubrsIn b.font.now b.words.now b.o.f.globals k.globals q k.globals (rows_of b.rows.now) k.rising Global)
          (sym c.across.ensures) b.asked.subrs;
    }

pub returns : goal.returns
returns c =
    let b = c.args.b.now in (
      globals-measured b.how.way (program b) (rows_of b.rows.now) b.words.now b.used.now b.table.now b.how.globals
          (written b) _ c.across.ensures _ c.subrs_total.ensures.0,
      c.subrs_total.ensures.1,
    )
