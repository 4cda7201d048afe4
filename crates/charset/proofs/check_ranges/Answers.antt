-- `charset::check_ranges` meets its contract.
use Rattle.std.proofs.Common.{arith, length, ◌+◌, ◌<◌, ◌∙◌, ◌≤◌}
use Rattle.charset.specs.CharsetLaws.{check_lost, check-last, check-last-past, check-past, check-on, check_done, left-small}
use Rattle.charset.proofs.check_ranges.Goals as goal
use Rattle.charset.proofs.check_ranges.Goals.{After-num_at-left}

-- the range of a turn is there
there : (c : After-num_at-left)
    → c.loop-k.q + 2 + c.args.c.width
    ≤ length c.args.font.now
there c = omega arith

small : (c : After-num_at-left) → c.num_at-left.result < 65536
small c = left-small _ _ c.num_at-left.ensures.1 c.requires.0

pub returns-then-len-q : goal.returns-then-len-q
returns-then-len-q c =
    let a = c.args in
    let l = c.loop-k in
    check_lost a.font.now l.q a.c.width l.k a.c c.loop-k-test.true (omega arith) ∙ l.invariant.4

pub overflow_add-first : goal.overflow_add-first
overflow_add-first c = omega (arith, small (goal.at.overflow_add-first c).After-num_at-left)

pub returns-then-first-k-gt65536 : goal.returns-then-first-k-gt65536
returns-then-first-k-gt65536 c =
    check-last-past _ _ _ _ _ _ _ c.loop-k-test.true (there (goal.at.returns-then-first-k-gt65536 c).After-num_at-left) c.u16_at-first.ensures.0 c.num_at-left.ensures.0
    c.u16_at-first.ensures.1 c.if-k-left.true c.if-first-k-gt65536.true ∙ c.loop-k.invariant.4

pub returns-then-k-left : goal.returns-then-k-left
returns-then-k-left c =
    check-last _ _ _ _ _ _ _ c.loop-k-test.true (there (goal.at.returns-then-k-left c).After-num_at-left) c.u16_at-first.ensures.0 c.num_at-left.ensures.0
    c.if-k-left.true c.if-first-k-gt65536.false ∙ c.loop-k.invariant.4

pub overflow_add-first-in-loop-k : goal.overflow_add-first-in-loop-k
overflow_add-first-in-loop-k c = omega (arith, small (goal.at.overflow_add-first-in-loop-k c).After-num_at-left)

pub returns-then-first-left-gt65535 : goal.returns-then-first-left-gt65535
returns-then-first-left-gt65535 c =
    check-past _ _ _ _ _ _ _ c.loop-k-test.true (there (goal.at.returns-then-first-left-gt65535 c).After-num_at-left) c.u16_at-first.ensures.0 c.num_at-left.ensures.0
    c.u16_at-first.ensures.1 c.if-k-left.false c.if-first-left-gt65535.true ∙ c.loop-k.invariant.4

pub loop-k-preserved : goal.loop-k-preserved
loop-k-preserved c =
    let l = c.loop-k in (
      l.invariant.0,
      l.invariant.1,
      omega (arith, there (goal.at.loop-k-preserved c).After-num_at-left),
      omega arith,
      check-on _ _ _ _ _ _ _ c.loop-k-test.true (there (goal.at.loop-k-preserved c).After-num_at-left) c.u16_at-first.ensures.0 c.num_at-left.ensures.0
          c.if-k-left.false c.if-first-left-gt65535.false
          ∙ l.invariant.4,
    )

pub returns : goal.returns
returns c =
    let a = c.args in
    let l = c.loop-k in
    check_done a.font.now l.q a.c.width l.k a.c (omega arith) ∙ l.invariant.4
