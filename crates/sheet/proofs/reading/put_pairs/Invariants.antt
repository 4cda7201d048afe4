-- The invariant: writing the numbers that are left gives what writing all of them gives.
use Rattle.std.proofs.Common.{drop, ◌*◌}
use Rattle.cases.specs.Writing.{Writing}
use Rattle.sheet.specs.Sheet.{pairs}
use Rattle.sheet.proofs.reading.put_pairs.Given as goal

abbrev pub invariant-loop-p : goal.invariant-loop-p
invariant-loop-p l = Writing l.initial.keep 0 (pairs l.bytes) l.keep l.p (pairs (drop (2 * l.p) l.bytes))
