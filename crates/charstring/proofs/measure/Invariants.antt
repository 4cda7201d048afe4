use Rattle.std.proofs.Common.{length, ◌≤◌}
use Rattle.charstring.specs.Token.{lookup}
use Rattle.charstring.specs.TokensLaws.{fuel_of}
use Rattle.charstring.specs.EncodeLaws.{Measuring}
use Rattle.charstring.proofs.measure.Given as goal

abbrev pub invariant-loop-c : goal.invariant-loop-c
invariant-loop-c l = Measuring (lookup l.pairs) l.code l.c l.len × (length l.code ≤ 67108864)

abbrev pub decreases-loop-c : goal.decreases-loop-c
decreases-loop-c l = fuel_of l.code l.c
