use Rattle.std.proofs.Common.{length, ◌≡◌}
use Rattle.charstring.specs.TokensLaws.{fuel_of}
use Rattle.renumber.specs.Walks.{Puts}
use Rattle.renumbered.proofs.put_renumbered.Given as goal

abbrev pub invariant-loop-code : goal.invariant-loop-code
invariant-loop-code l = Puts l.body l.initial.out.bytes.now l.initial.out.at l.c l.h l.out.bytes.now l.out.at
    × (l.out.bytes.ghost_name ≡ l.initial.out.bytes.ghost_name) × (length l.out.bytes.now ≡ length l.initial.out.bytes.now)

abbrev pub decreases-loop-code : goal.decreases-loop-code
decreases-loop-code l = fuel_of l.body.code.now l.c
