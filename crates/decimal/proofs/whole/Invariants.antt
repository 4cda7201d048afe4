-- The invariant: the digits left, with the zeros dropped behind them, are the integer.
use Rattle.std.proofs.Common.{◌*◌, ◌+◌, ◌<◌, ◌^◌, ◌≡◌, ◌≤◌}
use Rattle.decimal.proofs.whole.Given as goal

abbrev pub invariant-loop-digits : goal.invariant-loop-digits
invariant-loop-digits l = (0 < l.digits) × (l.up + l.digits ≤ l.n) × (l.digits * 10 ^ l.up ≡ l.n)

abbrev pub decreases-loop-digits : goal.decreases-loop-digits
decreases-loop-digits l = l.digits
