-- The invariant: writing what is left gives what writing all of it gave.
use Rattle.std.proofs.Common.{◌≡◌}
use Rattle.octets.specs.Octets.{put, bytes_of}
use Rattle.octets.proofs.put_num.Given as goal

abbrev pub invariant-loop-i : goal.invariant-loop-i
invariant-loop-i l = put l.out l.at (bytes_of l.i l.v) ≡ put l.initial.out l.at (bytes_of l.size l.value)
