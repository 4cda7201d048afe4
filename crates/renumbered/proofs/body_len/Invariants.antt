use Rattle.charstring.specs.TokensLaws.{fuel_of}
use Rattle.renumber.specs.Walks.{Sizes}
use Rattle.renumbered.proofs.body_len.Given as goal

abbrev pub invariant-loop-code : goal.invariant-loop-code
invariant-loop-code l = Sizes l.body l.c l.h l.len

abbrev pub decreases-loop-code : goal.decreases-loop-code
decreases-loop-code l = fuel_of l.body.code.now l.c
