-- The invariant: the tokens done stand in the answer, and what is left follows them.
use Rattle.charstring.specs.Token.{lookup}
use Rattle.charstring.specs.TokensLaws.{fuel_of}
use Rattle.charstring_cases.specs.StreamLaws.{Listing}
use Rattle.charstring_cases.proofs.of_tokens.Given as goal

abbrev pub invariant-loop-c : goal.invariant-loop-c
invariant-loop-c l = Listing (lookup l.pairs) l.code l.c l.answer

abbrev pub decreases-loop-c : goal.decreases-loop-c
decreases-loop-c l = fuel_of l.code l.c
