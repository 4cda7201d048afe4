-- `failing::first_failing` meets its contract: glyph 0, then the keep list; the invariant: what is left gives what all give.
use Rattle.std.proofs.lemmas.Bool.{not_from_false, not_from_true}
use Rattle.std.proofs.Common.{arith, length, ◌<◌, ◌∙◌}
use Rattle.record.specs.Record.{rows_of}
use Rattle.cff.specs.Loaded.{program}
use Rattle.failing.specs.FailingLaws.{kept-inside, turned_true, turned_false, zero-fails, asking_start, asking_next, asking_found, asking_done}
use Rattle.failing.proofs.first_failing.Goals as goal

pub returns-then-not-is_made : goal.returns-then-not-is_made
returns-then-not-is_made c =
    let by = c.args.by.now in
    zero-fails (program by.list.font.loaded) (rows_of by.rows.bytes.now) by.list.keep.now (turned_true c.is_made.result (not_from_false _ c.if-not-is_made.true) ∙ c.is_made.ensures)

pub loop-i-init : goal.loop-i-init
loop-i-init c =
    let by = c.args.by.now in
    asking_start (program by.list.font.loaded) (rows_of by.rows.bytes.now) by.list.keep.now (turned_false c.is_made.result (not_from_true _ c.if-not-is_made.false) ∙ c.is_made.ensures)

pub is_made-requires-in-loop-i : goal.is_made-requires-in-loop-i
is_made-requires-in-loop-i c =
    let l = c.loop-i in
    let list = c.args.by.now.list in
    let h : l.i < length list.keep.now = omega arith in
    (kept-inside list.font.loaded.bytes.now list.font.loaded.f list.font.held list.keep.now list.below l.i h, c.args.by.now.marked.each l.i h)

pub loop-i-preserved : goal.loop-i-preserved
loop-i-preserved c =
    let l = c.loop-i in
    let by = c.args.by.now in
    asking_next (program by.list.font.loaded) (rows_of by.rows.bytes.now) by.list.keep.now l.i l.invariant (omega arith)
    (turned_false c.is_made-in-loop-i.result (not_from_true _ c.if-not-is_made-2.false) ∙ c.is_made-in-loop-i.ensures)

pub returns-then-not-is_made-2 : goal.returns-then-not-is_made-2
returns-then-not-is_made-2 c =
    let l = c.loop-i in
    let by = c.args.by.now in
    asking_found (program by.list.font.loaded) (rows_of by.rows.bytes.now) by.list.keep.now l.i l.invariant (omega arith)
    (turned_true c.is_made-in-loop-i.result (not_from_false _ c.if-not-is_made-2.true) ∙ c.is_made-in-loop-i.ensures)

pub returns : goal.returns
returns c =
    let l = c.loop-i in
    let by = c.args.by.now in
    asking_done (program by.list.font.loaded) (rows_of by.rows.bytes.now) by.list.keep.now l.i l.invariant (omega arith)
