-- `dict::operand` meets its contract: the operands that are left to pass lead to the one that is wanted.
use Rattle.std.proofs.Common.{arith}
use Rattle.dict.proofs.LookupLaws.{skipping_over, skipping_refused, skipping_none, skipping_further, skipping_here, skipping_turn}
use Rattle.dict.proofs.operand.Goals as goal

pub returns-then-left-eq0 : goal.returns-then-left-eq0
returns-then-left-eq0 c = skipping_here _ _ _ _ _ c.loop-at.invariant _ c.number_at.ensures c.in-Ok-Some.number (cc) c.if-left-eq0.true

pub loop-at-smaller : goal.loop-at-smaller
loop-at-smaller c = let s = skipping_further _ _ _ _ _ c.loop-at.invariant _ c.number_at.ensures c.in-Ok-Some.number (cc) c.loop-at-test.true in omega (arith, s.0, s.1)

pub loop-at-preserved : goal.loop-at-preserved
loop-at-preserved c = skipping_turn _ _ _ _ _ c.loop-at.invariant _ c.number_at.ensures c.in-Ok-Some.number (cc) c.if-left-eq0.false

pub returns-in-Ok-None : goal.returns-in-Ok-None
returns-in-Ok-None c = skipping_none _ _ _ _ _ c.loop-at.invariant _ c.number_at.ensures (cc)

pub returns-in-Err : goal.returns-in-Err
returns-in-Err c = skipping_refused _ _ _ _ _ c.loop-at.invariant _ c.number_at.ensures _ c.in-Err.is

pub returns : goal.returns
returns c = skipping_over _ _ _ _ _ c.loop-at.invariant c.loop-at-test.false
