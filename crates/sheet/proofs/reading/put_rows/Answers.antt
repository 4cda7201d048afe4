-- `reading::put_rows` meets its contract.
use Rattle.std.proofs.Common.{ap, arith, ◌∙◌, length, subst, sym, List, ℕ, true, ◌+◌, ◌≤◌, ◌≡◌}
use Rattle.hexlines.specs.Hexlines.{spelt}
use Rattle.cases.specs.Lines.{lines_of}
use Rattle.cases.specs.LinesLeft.{lines_left}
use Rattle.cases.specs.Writing.{Writing, writing_start, writing-room, writing-turn, writing_end, wrote_part}
use Rattle.sheet.specs.Sheet.{all_rows, filled, row_bytes}
use Rattle.sheet.specs.ReadingLaws.{rows_start, rows_next, rows-turn, rows_none, wrote-rows, rest_length}
use Rattle.sheet.proofs.reading.put_rows.Goals as goal
use Rattle.sheet.proofs.reading.put_rows.Goals.{In-Some}

-- there is room for the next row
room : (c : In-Some) → c.loop-line.q + length (spelt c.in-Some.line.now) ≤ length c.loop-line.rec
room c =
    writing-room c.loop-line.invariant.2 _ _ (rows_next _ _ _ c.in-Some.ensures.steps) (omega (arith, c.loop-line.invariant.1, c.requires.1))

pub loop-line-init : goal.loop-line-init
loop-line-init c =
    let r = rows_start (lines_of c.args.text.now) c.requires.0 in
    let e : lines_left c.into_iter-line-iterator.result ≡ lines_of c.args.text.now = ap lines_left c.into_iter-line-iterator.ensures.into_iter_gives ∙ c.of-line-items.ensures in
    (rw e r.0, r.1, rw e (writing_start c.args.rec.now 0 (row_bytes (lines_of c.args.text.now))))

pub put_spelt-q-requires : goal.put_spelt-q-requires
put_spelt-q-requires c =
    let r = room (goal.at.put_spelt-q-requires c).In-Some in
    ((rows-turn _ _ _ c.in-Some.ensures.steps c.loop-line.invariant.0).0, omega (arith, r, rest_length c.loop-line.rec c.loop-line.q))

pub overflow_add-q : goal.overflow_add-q
overflow_add-q c =
    let r = room (goal.at.overflow_add-q c).In-Some in
    omega (arith, r, c.put_spelt-q.ensures.behind, c.loop-line.invariant.2.size, c.requires.1)

pub loop-line-preserved : goal.loop-line-preserved
loop-line-preserved c =
    let n = c.in-Some.ensures.steps in
    let l = c.loop-line in (
      (rows-turn _ _ _ n l.invariant.0).1,
      l.invariant.1,
      writing-turn l.invariant.2 _ _ (rows_next _ _ _ n) (omega (arith, l.invariant.1, c.requires.1)) _ _
          (wrote_part l.rec _ _ l.q _ (room (goal.at.loop-line-preserved c).In-Some) c.put_spelt-q.ensures),
    )

pub returns : goal.returns
returns c = wrote-rows c.args.text.now (writing_end c.loop-line.invariant.2 (rows_none _ c.in-None.ensures.steps.0))
