-- The invariant: the lengths that are left fit in the bytes that are left exactly where all fit in all.
use Rattle.std.proofs.Common.{drop, ltb, not, ◌≡◌}
use Rattle.octets.specs.Lists.{sum_of}
use Rattle.find_many.proofs.names.fit.Given as goal

abbrev pub invariant-loop-len : goal.invariant-loop-len
invariant-loop-len l = not (ltb l.bytes (sum_of l.lens)) ≡ not (ltb l.left (sum_of (drop l.len-index l.lens)))
