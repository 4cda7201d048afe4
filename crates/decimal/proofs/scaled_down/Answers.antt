-- `decimal::scaled_down` meets its contract.
use Rattle.std.proofs.Math.Nat.{div-div-eq-div-mul}
use Rattle.std.proofs.lemmas.Grind.{pow_more}
use Rattle.std.proofs.Common.{◌^◌}
use Rattle.decimal.proofs.scaled_down.Goals as goal

pub loop-preserved : goal.loop-preserved
loop-preserved c = let l = c.loop in rw (l.invariant, pow_more) (div-div-eq-div-mul c.args.m (10 ^ l.counter) 10)
