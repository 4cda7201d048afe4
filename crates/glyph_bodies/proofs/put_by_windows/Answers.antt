-- `glyph_bodies::put_by_windows` meets its contract.
use Rattle.std.proofs.Common.{arith, refl}
use Rattle.order_window.specs.Stays.{stays-refl, stays-then}
use Rattle.record.specs.Record.{rows_of}
use Rattle.glyph_bodies.specs.LoopLaws.{asked_again, glyph_asked}
use Rattle.glyph_bodies.specs.PartLaws.{fills_glyph}
use Rattle.glyph_bodies.specs.PutLaws.{head-asked, charstrings-meant, put-start, put_whole, put-asked, end_asked, put_next}
use Rattle.glyph_bodies.proofs.put_by_windows.Goals as goal

pub put_head-requires : goal.put_head-requires
put_head-requires c = head-asked c.args.all c.args.out.now c.requires c.index_for-to.ensures

pub overflow_add-out : goal.overflow_add-out
overflow_add-out c =
    omega (arith, charstrings-meant c.args.all c.args.out.now c.requires c.index_for-to.ensures c.put_head.new.out c.put_head.ensures.size, c.requires.early)

pub loop-i-init : goal.loop-i-init
loop-i-init c = (put-start c.args.all c.args.out.now c.requires c.index_for-to.ensures _ c.put_head.ensures.size refl, stays-refl _, tt)

pub advance-masks-requires : goal.advance-masks-requires
advance-masks-requires c =
    (fills_glyph (glyph_asked c.args.all c.loop-i.invariant.1 c.loop-i-test.true _ c.glyph_at-glyph.ensures.0), c.loop-i.invariant.2)

pub invariant_of-one : goal.invariant_of-one
invariant_of-one c = record { asked = glyph_asked c.args.all c.loop-i.invariant.1 c.loop-i-test.true _ c.glyph_at-glyph.ensures.0 }

pub put_windowed-requires : goal.put_windowed-requires
put_windowed-requires c =
    let q = put-asked c.args.all c.args.out.now c.requires c.index_for-to.ensures _ c.put_head.ensures.size c.loop-i.invariant.0 c.loop-i.invariant.1 c.loop-i-test.true _ c.glyph_at-glyph.ensures.0 in
    (c.advance-masks.ensures.0, c.advance-masks.ensures.1, q.0, q.1)

pub put_end-requires : goal.put_end-requires
put_end-requires c =
    end_asked c.args.all c.args.out.now c.requires c.index_for-to.ensures _ c.put_head.ensures.size c.loop-i.invariant.0 c.loop-i.invariant.1 c.loop-i-test.true _ c.glyph_at-glyph.ensures.0
    c.put_windowed.ensures.0

pub loop-i-preserved : goal.loop-i-preserved
loop-i-preserved c = (
  put_next c.args.all c.args.out.now c.requires c.index_for-to.ensures _ c.put_head.ensures.size c.loop-i.invariant.0 c.loop-i.invariant.1 c.loop-i-test.true _ c.glyph_at-glyph.ensures.0
      c.put_windowed.ensures.0 c.put_end.ensures,
  stays-then _ _ _ c.loop-i.invariant.1 c.glyph_at-glyph.ensures.1,
  c.put_windowed.ensures.1,
)

pub invariant_of-all : goal.invariant_of-all
invariant_of-all c =
    let a = c.args.all in
    record { asked = asked_again _ _ c.loop-i.invariant.1 a.table.now a.how (rows_of a.rows.now) a.asked }

pub returns : goal.returns
returns c = (
  put_whole c.args.all c.args.out.now c.requires c.index_for-to.ensures _ c.put_head.ensures.size c.loop-i.invariant.0 c.put_head.ensures refl c.loop-i-test.false,
  c.loop-i.invariant.1,
)
