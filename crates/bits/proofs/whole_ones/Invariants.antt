-- The invariant: n is the ones of the first i words.
use Rattle.std.proofs.Common.{◌*◌, ◌≡◌, ◌≤◌}
use Rattle.bits.specs.Bits.{whole_ones_lem}
use Rattle.bits.proofs.whole_ones.Given as goal

abbrev pub invariant-loop-i : goal.invariant-loop-i
invariant-loop-i l = (l.n ≤ 32 * l.i) × (l.n ≡ whole_ones_lem l.words l.at l.i)
