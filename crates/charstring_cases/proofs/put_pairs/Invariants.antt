-- The invariant: writing the numbers that are left gives what writing all of them gives.
use Rattle.std.proofs.Common.{length, ◌/◌, ◌≡◌}
use Rattle.octets.specs.Octets.{put}
use Rattle.charstring_cases.specs.Streams.{pairs_at}
use Rattle.charstring_cases.specs.AnswersLaws.{pairs_left}
use Rattle.charstring_cases.proofs.put_pairs.Given as goal

abbrev pub invariant-loop-i : goal.invariant-loop-i
invariant-loop-i l = put l.pairs l.i (pairs_left l.bytes (length l.bytes / 2) l.i) ≡ put l.initial.pairs 0 (pairs_at l.bytes 0 (length l.bytes / 2))
