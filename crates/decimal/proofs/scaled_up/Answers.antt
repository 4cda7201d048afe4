-- `decimal::scaled_up` meets its contract.
use Rattle.std.proofs.Common.{arith, mul_assoc, ◌^◌}
use Rattle.std.proofs.Math.Nat.{mul-le-mul_left, pow-le-pow_right}
use Rattle.std.proofs.lemmas.Grind.{pow_more}
use Rattle.decimal.proofs.scaled_up.Goals as goal

pub returns-then-cap-n : goal.returns-then-cap-n
returns-then-cap-n c = omega (arith, mul-le-mul_left c.args.m (pow-le-pow_right {n = 10} (omega arith) {i = c.loop.counter} {j = c.args.k} (omega (arith, c.loop-test.true))))

pub loop-preserved : goal.loop-preserved
loop-preserved c = let l = c.loop in rw (l.invariant, pow_more) (mul_assoc c.args.m (10 ^ l.counter) 10)
