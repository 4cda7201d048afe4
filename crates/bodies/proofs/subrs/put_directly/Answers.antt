-- `bodies::subrs::put_directly` meets its contract.
use Rattle.std.proofs.Common.{ap, arith, length, refl, sym, ◌∙◌, ◌≡◌}
use Rattle.octets.specs.OutLaws.{writes_as}
use Rattle.index.specs.Write.{index_bytes}
use Rattle.index.specs.Begun.{Meant}
use Rattle.bits.specs.Bits.{count_below}
use Rattle.subset.specs.RankLaws.{count-few}
use Rattle.bodies.specs.Ways.{many_of}
use Rattle.bodies.specs.WritingLaws.{head-fits, places-meant}
use Rattle.bodies.specs.WritingOut.{writes_start, writes-skip, writes-fit, writes_end, writes-on, writes-whole}
use Rattle.bodies.specs.Written.{kept_of, subr_of, subrs_of}
use Rattle.bodies.specs.WrittenLaws.{written-each, written-count, new-written, measured_room}
use Rattle.bodies.proofs.subrs.put_directly.Goals as goal
use Rattle.bodies.proofs.subrs.put_directly.Goals.{After-kept_count-count, After-put_head, then-is_kept, else-is_kept}

many : (c : After-kept_count-count) → c.kept_count-count.result ≡ count_below (kept_of c.args.m.now.all) c.args.m.now.all.from.ix.count
many c = c.kept_count-count.ensures ∙ written-count c.args.m.now

-- the places are for the subroutines
meant : (c : After-put_head) → Meant (length c.put_head.new.out.bytes.now) c.index_for-ix.result (many_of (subrs_of c.args.m.now.all))
meant c =
    let m = c.args.m.now in
    let a = m.all in
    places-meant (subrs_of a) (subr_of a) (kept_of a) a.from.ix.count (written-each a) m.adds.done c.args.out.now.bytes.now c.args.out.now.at c.kept_count-count.result m.total c.index_for-ix.result
    (measured_room m c.requires.0 c.requires.1) c.index_for-ix.ensures (c.kept_count-count.ensures ∙ written-count m) (length c.put_head.new.out.bytes.now) c.put_head.ensures.size

pub index_for-ix-requires : goal.index_for-ix-requires
index_for-ix-requires c =
    let m = c.args.m.now in
    (c.requires.0, omega (arith, many (goal.at.index_for-ix-requires c).After-kept_count-count, count-few (kept_of m.all) m.all.from.ix.count, m.all.sourced.few), m.adds.few)

pub put_head-requires : goal.put_head-requires
put_head-requires c =
    let m = c.args.m.now in
    let a = m.all in (
      m.adds.few,
      head-fits (subrs_of a) (subr_of a) (kept_of a) a.from.ix.count (written-each a) m.adds.done c.args.out.now.bytes.now c.args.out.now.at c.kept_count-count.result m.total c.index_for-ix.result
          (measured_room m c.requires.0 c.requires.1) c.index_for-ix.ensures (many (goal.at.put_head-requires c).After-kept_count-count),
    )

pub overflow_add-out : goal.overflow_add-out
overflow_add-out c = omega (arith, meant (goal.at.overflow_add-out c).After-put_head)

pub loop-k-init : goal.loop-k-init
loop-k-init c = let a = c.args.m.now.all in writes_start _ _ (many_of (subrs_of a)) (kept_of a) a.from.ix.count refl

pub put_subr-requires : goal.put_subr-requires
put_subr-requires c =
    let m = c.args.m.now in
    let a = m.all in
    writes-fit (subrs_of a) (subr_of a) (kept_of a) a.from.ix.count (written-each a) m.adds.done (meant (goal.at.put_subr-requires c).After-put_head) c.loop-k.k c.loop-k.j
    c.loop-k.invariant c.loop-k-test.true (sym c.is_kept.ensures ∙ c.if-is_kept.true)

pub put_end-requires : goal.put_end-requires
put_end-requires c =
    let m = c.args.m.now in
    let a = m.all in
    writes_end (subrs_of a) (subr_of a) (kept_of a) a.from.ix.count (written-each a) m.adds.done (meant (goal.at.put_end-requires c).After-put_head) c.loop-k.k c.loop-k.j
    c.loop-k.invariant c.loop-k-test.true (sym c.is_kept.ensures ∙ c.if-is_kept.true) c.put_subr.ensures

pub overflow_add-j : goal.overflow_add-j
overflow_add-j c =
    let a = c.args.m.now.all in omega (arith, c.loop-k.invariant.writing.counted, count-few (kept_of a) c.loop-k.k, c.loop-k-test.true, a.sourced.few)

pub loop-k-preserved : goal.loop-k-preserved
loop-k-preserved c =
    let m = c.args.m.now in
    let a = m.all in
    elim c.if-is_kept.branch [
      | then-is_kept w ↦
          rw (w.out-is, w.j-is) (writes-on (subrs_of a) (subr_of a) (kept_of a) a.from.ix.count (written-each a) m.adds.done (meant (goal.at.loop-k-preserved c).After-put_head) c.loop-k.k c.loop-k.j
          c.loop-k.invariant c.loop-k-test.true (sym c.is_kept.ensures ∙ w.if-is_kept.true) w.put_subr.ensures w.put_end.ensures)
      | else-is_kept w ↦
          rw (w.out-is, w.j-is) (writes-skip (subrs_of a) (subr_of a) (kept_of a) a.from.ix.count (written-each a) m.adds.done (meant (goal.at.loop-k-preserved c).After-put_head) c.loop-k.k c.loop-k.j
          c.loop-k.invariant c.loop-k-test.true (sym c.is_kept.ensures ∙ w.if-is_kept.false))
    ]

pub returns : goal.returns
returns c =
    let m = c.args.m.now in
    let a = m.all in
    writes_as (writes-whole (subrs_of a) (subr_of a) (kept_of a) a.from.ix.count (written-each a) m.adds.done c.kept_count-count.result m.total c.index_for-ix.result
    (measured_room m c.requires.0 c.requires.1) c.index_for-ix.ensures (many (goal.at.returns c).After-kept_count-count) c.put_head.ensures refl c.loop-k-test.false c.loop-k.invariant)
    (ap index_bytes (sym (new-written a)))
