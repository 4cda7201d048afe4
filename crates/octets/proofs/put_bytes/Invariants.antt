-- The invariant: the first i bytes of src are written.
use Rattle.std.proofs.Common.{length, take, ◌≡◌, ◌≤◌}
use Rattle.octets.specs.Octets.{put}
use Rattle.octets.proofs.put_bytes.Given as goal

abbrev pub invariant-loop-i : goal.invariant-loop-i
invariant-loop-i l = (length l.out ≡ length l.initial.out) × (l.out ≡ put l.initial.out l.at (take l.i l.src))
