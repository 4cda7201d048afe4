-- `charset::fd_select::into_range` meets its contract.
use Rattle.std.proofs.Common.{arith, length, ◌+◌, ◌∙◌, ◌≤◌}
use Rattle.charset.specs.FdCursorLaws.{into_here, into_last, entry_there, turn_ready, turn-same}
use Rattle.charset.specs.declared.fd_select.FdCursor.{FdCursor}
use Rattle.charset.proofs.fd_select.into_range.Goals as goal
use Rattle.charset.proofs.fd_select.into_range.Goals.{In-loop-count}

-- the cursor of a turn
abbrev here : In-loop-count → FdCursor
here c =
    let a = c.args in
    let l = c.loop-count in
    record { gid = a.u.gid; fd = l.fd; end = l.end; count = l.count; wide = a.u.wide; at = l.at }

there : (c : In-loop-count) → (here c).at + 1 + (here c).wide ≤ length c.args.font.now
there c = entry_there c.args.font.now (here c) c.loop-count.invariant.0 c.loop-count-test.true

pub returns-then-gid-end : goal.returns-then-gid-end
returns-then-gid-end c =
    into_here c.args.font.now (here (goal.at.returns-then-gid-end c).In-loop-count).count (here (goal.at.returns-then-gid-end c).In-loop-count) c.loop-count-test.true c.if-gid-end.true ∙ c.loop-count.invariant.1

pub range_end-end-requires : goal.range_end-end-requires
range_end-end-requires c =
    (c.loop-count.invariant.0.narrow, omega (arith, c.loop-count.invariant.0.low), there (goal.at.range_end-end-requires c).In-loop-count)

pub bounds-font-at : goal.bounds-font-at
bounds-font-at c = omega (arith, there (goal.at.bounds-font-at c).In-loop-count)

pub overflow_add-at : goal.overflow_add-at
overflow_add-at c = omega (arith, there (goal.at.overflow_add-at c).In-loop-count)

pub overflow_add-at-in-loop-count : goal.overflow_add-at-in-loop-count
overflow_add-at-in-loop-count c = omega (arith, there (goal.at.overflow_add-at-in-loop-count c).In-loop-count)

pub loop-count-preserved : goal.loop-count-preserved
loop-count-preserved c =
    let b = c.args.font.now in
    let l = c.loop-count in (
      turn_ready b (here (goal.at.loop-count-preserved c).In-loop-count) l.invariant.0 c.loop-count-test.true _ c.range_end-end.ensures,
      turn-same b (here (goal.at.loop-count-preserved c).In-loop-count) l.invariant.0 c.loop-count-test.true _ c.range_end-end.ensures c.if-gid-end.false ∙ l.invariant.1,
    )

pub returns : goal.returns
returns c =
    let a = c.args in
    let l = c.loop-count in
    let u : FdCursor = record { gid = a.u.gid; fd = l.fd; end = l.end; count = l.count; wide = a.u.wide; at = l.at } in
    into_last a.font.now l.count u (omega arith) ∙ l.invariant.1
