-- The invariant: the quotient so far.
use Rattle.std.proofs.Common.{◌/◌, ◌^◌, ◌≡◌}
use Rattle.decimal.proofs.scaled_down.Given as goal

abbrev pub invariant-loop : goal.invariant-loop
invariant-loop l = l.n ≡ l.m / 10 ^ l.counter
