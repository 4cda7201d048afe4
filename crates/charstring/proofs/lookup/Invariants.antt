-- The invariant: the pairs that are left give what all give.
use Rattle.std.proofs.Common.{◌≡◌}
use Rattle.std.specs.Slice.Iter.{chunks_exact_rest, chunks_exact_size}
use Rattle.charstring.specs.Token.{lookup}
use Rattle.charstring.proofs.lookup.Given as goal

abbrev pub invariant-loop-pair : goal.invariant-loop-pair
invariant-loop-pair l = (chunks_exact_size l.pair-iterator ≡ 2) × (lookup (chunks_exact_rest l.pair-iterator) l.at ≡ lookup l.pairs l.at)
