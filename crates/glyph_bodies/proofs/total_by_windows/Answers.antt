-- `glyph_bodies::total_by_windows` meets its contract.
use Rattle.std.proofs.Common.{arith, refl}
use Rattle.record.specs.Record.{rows_of}
use Rattle.order_window.specs.Stays.{stays-refl, stays-then}
use Rattle.bodies.specs.Ways.{every}
use Rattle.bodies.specs.SizesLaws.{adding_start}
use Rattle.glyph_bodies.specs.LoopLaws.{asked_again, glyph_asked, total_failed, total-room, total-next, total-whole}
use Rattle.glyph_bodies.specs.PartLaws.{fills_glyph}
use Rattle.glyph_bodies.proofs.total_by_windows.Goals as goal

pub loop-i-init : goal.loop-i-init
loop-i-init c = (adding_start _ every _, stays-refl _, tt)

pub advance-masks-requires : goal.advance-masks-requires
advance-masks-requires c =
    (fills_glyph (glyph_asked c.args.all.now c.loop-i.invariant.1 c.loop-i-test.true _ c.glyph_at-glyph.ensures.0), c.loop-i.invariant.2)

pub invariant_of-one : goal.invariant_of-one
invariant_of-one c = record { asked = glyph_asked c.args.all.now c.loop-i.invariant.1 c.loop-i-test.true _ c.glyph_at-glyph.ensures.0 }

pub overflow_add-total : goal.overflow_add-total
overflow_add-total c =
    omega (arith, total-room c.args.all.now c.loop-i.invariant.1 c.loop-i-test.true _ c.glyph_at-glyph.ensures.0 _ c.loop-i.invariant.0 _ (c.windowed_len.ensures.0, c.windowed_len.ensures.1) _ c.in-Some.is)

pub loop-i-preserved : goal.loop-i-preserved
loop-i-preserved c = (
  total-next c.args.all.now c.loop-i.invariant.1 c.loop-i-test.true _ c.glyph_at-glyph.ensures.0 _ c.loop-i.invariant.0 _ (c.windowed_len.ensures.0, c.windowed_len.ensures.1) _ c.in-Some.is,
  stays-then _ _ _ c.loop-i.invariant.1 c.glyph_at-glyph.ensures.1,
  c.windowed_len.ensures.2,
)

pub invariant_of-all-in-None : goal.invariant_of-all-in-None
invariant_of-all-in-None c =
    let a = c.args.all.now in
    record { asked = asked_again _ _ (stays-then _ _ _ c.loop-i.invariant.1 c.glyph_at-glyph.ensures.1) a.table.now a.how (rows_of a.rows.now) a.asked }

pub returns-in-None : goal.returns-in-None
returns-in-None c = (
  total_failed c.args.all.now c.loop-i.invariant.1 c.loop-i-test.true _ c.glyph_at-glyph.ensures.0 _ c.loop-i.invariant.0 _ (c.windowed_len.ensures.0, c.windowed_len.ensures.1) c.in-None.is,
  tt,
  refl,
  stays-then _ _ _ c.loop-i.invariant.1 c.glyph_at-glyph.ensures.1,
)

pub returns : goal.returns
returns c =
    let w = total-whole c.args.all.now _ _ c.loop-i.invariant.0 c.loop-i-test.false in
    (w.0, w.1, refl, c.loop-i.invariant.1)
