-- `bodies::subrs::put_windows` meets its contract.
use Rattle.std.proofs.Common.{ap, arith, length, refl, sym, ◌∙◌, ◌≡◌}
use Rattle.octets.specs.OutLaws.{writes_as}
use Rattle.index.specs.Write.{index_bytes}
use Rattle.index.specs.Begun.{Meant}
use Rattle.bits.specs.Bits.{count_below}
use Rattle.subset.specs.RankLaws.{count-few}
use Rattle.bodies.specs.Ways.{many_of}
use Rattle.bodies.specs.WritingLaws.{head-fits, places-meant}
use Rattle.bodies.specs.WritingOut.{writes_start, writes-skip, writes-fit, writes_end, writes-on, writes-whole}
use Rattle.bodies.specs.Written.{kept_of, subr_of, subrs_of}
use Rattle.bodies.specs.WrittenLaws.{written-each, written-count, new-written, measured_room}
use Rattle.bodies.proofs.subrs.put_windows.Goals as goal
use Rattle.bodies.proofs.subrs.put_windows.Goals.{After-kept_count-count, After-put_head, then-is_kept, else-is_kept}

many : (c : After-kept_count-count) → c.kept_count-count.result ≡ count_below (kept_of c.args.m.now.all) c.args.m.now.all.from.ix.count
many c = c.kept_count-count.ensures ∙ written-count c.args.m.now

-- the places are for the subroutines
meant : (c : After-put_head) → Meant (length c.put_head.new.out.bytes.now) c.index_for-ix.result (many_of (subrs_of c.args.m.now.all))
meant c =
    let m = c.args.m.now in
    let a = m.all in
    places-meant (subrs_of a) (subr_of a) (kept_of a) a.from.ix.count (written-each a) m.adds.done c.args.out.now.bytes.now c.args.out.now.at c.kept_count-count.result m.total c.index_for-ix.result
    (measured_room m c.requires.0 c.requires.1) c.index_for-ix.ensures (c.kept_count-count.ensures ∙ written-count m) (length c.put_head.new.out.bytes.now) c.put_head.ensures.size

pub index_for-ix-requires : goal.index_for-ix-requires
index_for-ix-requires c =
    let m = c.args.m.now in
    (c.requires.0, omega (arith, many (goal.at.index_for-ix-requires c).After-kept_count-count, count-few (kept_of m.all) m.all.from.ix.count, m.all.sourced.few), m.adds.few)

pub put_head-requires : goal.put_head-requires
put_head-requires c =
    let m = c.args.m.now in
    let a = m.all in (
      m.adds.few,
      head-fits (subrs_of a) (subr_of a) (kept_of a) a.from.ix.count (written-each a) m.adds.done c.args.out.now.bytes.now c.args.out.now.at c.kept_count-count.result m.total c.index_for-ix.result
          (measured_room m c.requires.0 c.requires.1) c.index_for-ix.ensures (many (goal.at.put_head-requires c).After-kept_count-count),
    )

pub overflow_add-out : goal.overflow_add-out
overflow_add-out c = omega (arith, meant (goal.at.overflow_add-out c).After-put_head)

pub loop-k-init : goal.loop-k-init
loop-k-init c = let a = c.args.m.now.all in (writes_start _ _ (many_of (subrs_of a)) (kept_of a) a.from.ix.count refl, tt)

pub put_windowed-requires : goal.put_windowed-requires
put_windowed-requires c =
    let m = c.args.m.now in
    let a = m.all in
    let q = writes-fit (subrs_of a) (subr_of a) (kept_of a) a.from.ix.count (written-each a) m.adds.done (meant (goal.at.put_windowed-requires c).After-put_head) c.loop-k.k c.loop-k.put
    c.loop-k.invariant.0 c.loop-k-test.true (sym c.is_kept.ensures ∙ c.if-is_kept.true) in (
      c.advance-window.ensures.0,
      c.advance-window.ensures.1,
      q.0,
      q.1,
    )

pub put_end-requires : goal.put_end-requires
put_end-requires c =
    let m = c.args.m.now in
    let a = m.all in
    writes_end (subrs_of a) (subr_of a) (kept_of a) a.from.ix.count (written-each a) m.adds.done (meant (goal.at.put_end-requires c).After-put_head) c.loop-k.k c.loop-k.put
    c.loop-k.invariant.0 c.loop-k-test.true (sym c.is_kept.ensures ∙ c.if-is_kept.true) c.put_windowed.ensures.0

pub overflow_add-put : goal.overflow_add-put
overflow_add-put c =
    let a = c.args.m.now.all in omega (arith, c.loop-k.invariant.0.writing.counted, count-few (kept_of a) c.loop-k.k, c.loop-k-test.true, a.sourced.few)

pub loop-k-preserved : goal.loop-k-preserved
loop-k-preserved c =
    let m = c.args.m.now in
    let a = m.all in
    elim c.if-is_kept.branch [
      | then-is_kept w ↦ (
        rw (w.out-is, w.put-is) (writes-on (subrs_of a) (subr_of a) (kept_of a) a.from.ix.count (written-each a) m.adds.done (meant (goal.at.loop-k-preserved c).After-put_head) c.loop-k.k c.loop-k.put
            c.loop-k.invariant.0 c.loop-k-test.true (sym c.is_kept.ensures ∙ w.if-is_kept.true) w.put_windowed.ensures.0 w.put_end.ensures),
        rw (w.lent-is, w.window-is) w.put_windowed.ensures.1,
      )
      | else-is_kept w ↦ (
        rw (w.out-is, w.put-is) (writes-skip (subrs_of a) (subr_of a) (kept_of a) a.from.ix.count (written-each a) m.adds.done (meant (goal.at.loop-k-preserved c).After-put_head) c.loop-k.k c.loop-k.put
            c.loop-k.invariant.0 c.loop-k-test.true (sym c.is_kept.ensures ∙ w.if-is_kept.false)),
        rw (w.lent-is, w.window-is) c.loop-k.invariant.1,
      )
    ]

pub returns : goal.returns
returns c =
    let m = c.args.m.now in
    let a = m.all in
    writes_as (writes-whole (subrs_of a) (subr_of a) (kept_of a) a.from.ix.count (written-each a) m.adds.done c.kept_count-count.result m.total c.index_for-ix.result
    (measured_room m c.requires.0 c.requires.1) c.index_for-ix.ensures (many (goal.at.returns c).After-kept_count-count) c.put_head.ensures refl c.loop-k-test.false c.loop-k.invariant.0)
    (ap index_bytes (sym (new-written a)))
