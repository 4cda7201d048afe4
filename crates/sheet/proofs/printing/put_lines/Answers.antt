-- `printing::put_lines` meets its contract.
use Rattle.std.proofs.Common.{[], arith, drop, get_or, length, refl, rules, ℕ, ◌+◌, ◌<◌, ◌∷◌, ◌≡◌}
use Rattle.octets.specs.declared.out.Out.{Out}
use Rattle.octets.specs.Out.{Writes}
use Rattle.cases.specs.Writing.{WritingOn, on_start, on_turn, on_end, writing-room}
use Rattle.sheet.specs.Sheet.{in_lines}
use Rattle.sheet.specs.Printing.{cell_bytes, next_col, lines_step, lines-whole, lines_begun}
use Rattle.sheet.proofs.printing.put_lines.Goals as goal
use Rattle.sheet.proofs.printing.put_lines.Goals.{At-loop-b}

-- a turn leaves the lines behind its byte
turned : (l : At-loop-b) → l.loop-b.b-index < length l.args.bytes.now → {new : Out}
    → Writes l.loop-b.out (cell_bytes (get_or l.args.bytes.now l.loop-b.b-index 0) l.loop-b.col) new → (col : ℕ) → col ≡ next_col l.loop-b.col
    → WritingOn l.args.out.now (in_lines 0 l.args.bytes.now) new (in_lines col (drop (l.loop-b.b-index + 1) l.args.bytes.now))
turned l h {new} w col e =
    rw e (on_turn l.loop-b.invariant.1 _ _ (lines_step l.args.bytes.now l.loop-b.b-index l.loop-b.col h) l.requires w)

pub loop-b-init : goal.loop-b-init
loop-b-init c = (search rules, on_start _ _)

pub put_cell-requires : goal.put_cell-requires
put_cell-requires c = let b = c.args.bytes.now in
    writing-room c.loop-b.invariant.1.writing (cell_bytes (get_or b c.loop-b.b-index 0) c.loop-b.col) (in_lines (next_col c.loop-b.col) (drop (c.loop-b.b-index + 1) b))
    (lines_step b c.loop-b.b-index c.loop-b.col c.loop-b-test.true) c.requires

pub loop-b-preserved : goal.loop-b-preserved
loop-b-preserved c = (c.next_col-col.ensures.1, turned (goal.at.loop-b-preserved c).At-loop-b c.loop-b-test.true c.put_cell.ensures _ c.next_col-col.ensures.0)

pub returns-then-col-eq0 : goal.returns-then-col-eq0
returns-then-col-eq0 c = on_end c.loop-b.invariant.1 (lines-whole c.args.bytes.now c.loop-b.b-index c.loop-b.col (omega arith) c.if-col-eq0.true)

pub byte-requires : goal.byte-requires
byte-requires c = let r = writing-room c.loop-b.invariant.1.writing (10 ∷ []) [] (lines_begun c.args.bytes.now c.loop-b.b-index c.loop-b.col (omega arith) c.if-col-eq0.false) c.requires in
    omega (arith, r)

pub returns : goal.returns
returns c = on_end (on_turn c.loop-b.invariant.1 (10 ∷ []) [] (lines_begun c.args.bytes.now c.loop-b.b-index c.loop-b.col (omega arith) c.if-col-eq0.false) c.requires c.byte.ensures) refl
