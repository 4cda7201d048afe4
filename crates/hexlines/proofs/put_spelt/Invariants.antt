-- The invariant: writing what is left gives what writing all of it gave.
use Rattle.std.proofs.Common.{length, ◌*◌, ◌+◌, ◌≡◌}
use Rattle.std.specs.Iterator.Adapters.{enumerate_count, enumerate_source}
use Rattle.std.specs.Slice.Iter.{chunks_exact_rest, chunks_exact_size}
use Rattle.octets.specs.Octets.{put}
use Rattle.hexlines.specs.Hexlines.{spelt}
use Rattle.hexlines.proofs.put_spelt.Given as goal

abbrev pub invariant-loop-i : goal.invariant-loop-i
invariant-loop-i l =
    (chunks_exact_size (enumerate_source l.i-iterator) ≡ 2)
    × (2 * enumerate_count l.i-iterator + length (chunks_exact_rest (enumerate_source l.i-iterator)) ≡ length l.s)
    × (put l.out (enumerate_count l.i-iterator) (spelt (chunks_exact_rest (enumerate_source l.i-iterator))) ≡ put l.initial.out 0 (spelt l.s))
