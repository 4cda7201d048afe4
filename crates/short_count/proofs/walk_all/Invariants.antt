-- The invariant: what is still to come gives, counted and hashed on, what all give. A step goes on in the order, which has an end.
use Rattle.std.proofs.Common.{length, take, ◌-◌, ◌≡◌, ◌≤◌}
use Rattle.short_charstrings.specs.Next.{candidates, start_of}
use Rattle.short_count.specs.CountLaws.{Going}
use Rattle.short_count.proofs.walk_all.Given as goal

abbrev pub invariant-loop-k : goal.invariant-loop-k
invariant-loop-k l = (length l.code ≡ 4) × (l.n ≤ 4) × Going l.counts (take l.n l.code) l.hash

abbrev pub decreases-loop-k : goal.decreases-loop-k
decreases-loop-k l = candidates - start_of (take l.n l.code)
