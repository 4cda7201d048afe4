use Rattle.std.proofs.Common.{length, ◌≡◌}
use Rattle.blocking.specs.Stays.{over, frees_by, Stays}
use Rattle.blocking.specs.SearchLaws.{Searching}
use Rattle.blocking.proofs.first_freed.Given as goal

abbrev pub invariant-loop-g : goal.invariant-loop-g
invariant-loop-g l =
    (l.list ≡ l.initial.list) × Stays l.initial.search l.search
    × Searching (over (frees_by l.initial.list) l.initial.search) (length l.initial.list) l.g
