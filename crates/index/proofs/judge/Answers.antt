-- `index::judge` meets its contract.
use Rattle.std.proofs.Common.{arith, ◌*◌, ◌+◌, ◌-◌, ◌≡◌}
use Rattle.index.specs.IndexLaws.{turn_end, turn_falls, turn-past, turn_on}
use Rattle.index.proofs.judge.Goals as goal

pub returns-then-end-last : goal.returns-then-end-last
returns-then-end-last c =
    turn_falls _ _ _ _ _ (c.args.count - c.loop-i.i) c.loop-i.invariant _ c.num_at-end.ensures.0 (omega arith) c.if-end-last.true

pub returns-then-room-end : goal.returns-then-room-end
returns-then-room-end c =
    turn-past _ _ _ _ _ (c.args.count - c.loop-i.i) c.loop-i.invariant _ c.num_at-end.ensures.0 (omega arith) c.if-end-last.false c.if-room-end.true

pub loop-i-preserved : goal.loop-i-preserved
loop-i-preserved c =
    let a = c.args in
    let i = c.loop-i.i in
    let left : a.count - (i + 1) ≡ a.count - i - 1 = omega arith in
    let next : a.place + (i + 1) * a.size ≡ a.place + i * a.size + a.size = omega arith in
    rw (left, next) (turn_on _ _ _ _ _ (a.count - i) c.loop-i.invariant _ c.num_at-end.ensures.0 (omega arith) c.if-end-last.false c.if-room-end.false)

pub returns : goal.returns
returns c =
    let a = c.args in
    let i = c.loop-i.i in
    turn_end a.font.now _ _ (a.place + i * a.size) _ (a.count - i) c.loop-i.invariant (omega arith)
