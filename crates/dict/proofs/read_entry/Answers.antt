-- `dict::read_entry` meets its contract: the operands counted so far and the rest of the entry make the whole of it.
use Rattle.std.specs.Prelude.{◌≡◌}
use Rattle.std.proofs.Common.{arith}
use Rattle.refusal.specs.HandedOn.{handed_on}
use Rattle.dict.specs.Dict.{entry_at}
use Rattle.dict.specs.Places.{entry_told}
use Rattle.dict.proofs.WalkLaws.{counting-over, counting_refused, counting-operator, counting_further, counting-turn}
use Rattle.dict.proofs.read_entry.Goals as goal

pub returns-in_err-next : goal.returns-in_err-next
returns-in_err-next c =
    handed_on _ _ (λ q. q ≡ entry_told c.args.start 0 (entry_at c.args.d.now c.args.start)) c.from_residual.ensures.1
    (counting_refused _ _ _ _ c.loop-at.invariant c.loop-at-test.true _ c.token_at.ensures _ c.in_err-next.was)

pub loop-at-smaller : goal.loop-at-smaller
loop-at-smaller c = omega (arith, counting_further _ _ _ _ c.loop-at.invariant c.loop-at-test.true _ c.token_at.ensures c.in-Operand.next (cc))

pub loop-at-preserved : goal.loop-at-preserved
loop-at-preserved c = counting-turn _ _ _ _ c.loop-at.invariant c.loop-at-test.true _ c.token_at.ensures _ (cc)

pub returns-in-Operator : goal.returns-in-Operator
returns-in-Operator c = counting-operator _ _ _ _ c.loop-at.invariant c.loop-at-test.true _ c.token_at.ensures _ _ (cc)

pub returns : goal.returns
returns c = counting-over _ _ _ _ c.loop-at.invariant c.loop-at-test.false
