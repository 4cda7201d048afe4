use Rattle.std.proofs.Common.{length, ◌≡◌}
use Rattle.charstring.specs.Token.{lookup}
use Rattle.charstring.specs.TokensLaws.{fuel_of}
use Rattle.charstring.specs.EncodeLaws.{Writing}
use Rattle.charstring.proofs.put_body.Given as goal

abbrev pub invariant-loop-c : goal.invariant-loop-c
invariant-loop-c l = Writing (lookup l.pairs) l.code l.initial.out.bytes.now l.initial.out.at l.c l.out.bytes.now l.out.at
    × (l.out.bytes.ghost_name ≡ l.initial.out.bytes.ghost_name) × (length l.out.bytes.now ≡ length l.initial.out.bytes.now)

abbrev pub decreases-loop-c : goal.decreases-loop-c
decreases-loop-c l = fuel_of l.code l.c
