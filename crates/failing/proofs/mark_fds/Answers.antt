-- `failing::mark_fds` meets its contract: glyph 0, then the keep list; the invariant: the FDs of those that are done are marked.
use Rattle.std.proofs.Common.{arith, subst, sym, ◌+◌}
use Rattle.cff.specs.Loaded.{program}
use Rattle.failing.specs.FailingLaws.{Marking, kept-inside, marking_start, marking_next}
use Rattle.failing.proofs.mark_fds.Goals as goal

pub loop-g-init : goal.loop-g-init
loop-g-init c =
    let list = c.args.list.now in
    subst (Marking (program list.font.loaded) list.keep.now 0) (sym c.mark_fd.ensures) (marking_start list.font.loaded.bytes.now list.font.loaded.f list.font.held list.keep.now list.below _ c.requires)

pub mark_fd-requires-in-loop-g : goal.mark_fd-requires-in-loop-g
mark_fd-requires-in-loop-g c =
    let l = c.loop-g in
    let list = c.args.list.now in
    (kept-inside list.font.loaded.bytes.now list.font.loaded.f list.font.held list.keep.now list.below l.g-index (omega arith), omega (arith, l.invariant.long))

pub loop-g-preserved : goal.loop-g-preserved
loop-g-preserved c =
    let l = c.loop-g in
    let list = c.args.list.now in
    subst (Marking (program list.font.loaded) list.keep.now (l.g-index + 1)) (sym c.mark_fd-in-loop-g.ensures)
    (marking_next list.font.loaded.bytes.now list.font.loaded.f list.font.held list.keep.now list.below l.g-index _ l.invariant (omega arith))
