-- The invariant: the hash of what is left, behind h, is the hash of all.
use Rattle.std.proofs.Common.{drop, ◌<◌, ◌≡◌}
use Rattle.found.specs.Hash.{hash_from, hash_of_lem}
use Rattle.found.proofs.marks.hash_of.Given as goal

abbrev pub invariant-loop-b : goal.invariant-loop-b
invariant-loop-b l = (l.h < 4294967296) × (hash_from l.h (drop l.b-index l.text) ≡ hash_of_lem l.text)
