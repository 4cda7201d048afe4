-- `plan::sizes::measure` meets its contract: each part is measured, and where one fails, all do.
use Rattle.order_window.specs.Stays.{stays-refl}
use Rattle.plan.specs.MeasureLaws.{returns_globals, returns_locals, returns_glyphs, returns_all}
use Rattle.plan.proofs.sizes.measure.Goals as goal

pub returns-in_err-globals : goal.returns-in_err-globals
returns-in_err-globals c = (
  returns_globals _ _ _ _ _ _ _ _ _ _ c.globals_total.ensures.0 c.in_err-globals.was _ c.from_residual.ensures,
  stays-refl _,
)

pub returns-then-not-locals_totals : goal.returns-then-not-locals_totals
returns-then-not-locals_totals c = (
  returns_locals _ _ _ _ _ _ _ _ _ _ c.globals_total.ensures.0 _ c.locals_totals.ensures c.if-not-locals_totals.true,
  stays-refl _,
)

pub returns-in_err-glyphs : goal.returns-in_err-glyphs
returns-in_err-glyphs c = (
  returns_glyphs _ _ _ _ _ _ _ _ _ _ c.globals_total.ensures.0 _ c.locals_totals.ensures _ c.charstrings_total.ensures.0
      c.in_err-glyphs.was _ c.from_residual-in_err-glyphs.ensures,
  c.charstrings_total.ensures.2,
)

pub returns : goal.returns
returns c = (
  returns_all _ _ _ _ _ _ _ _ _ _ c.globals_total.ensures.0 _ c.locals_totals.ensures _ c.charstrings_total.ensures.0
      c.globals_total.ensures.1 c.charstrings_total.ensures.1 _ _ c.in_ok-globals.was c.if-not-locals_totals.false c.in_ok-glyphs.was,
  c.charstrings_total.ensures.2,
)
