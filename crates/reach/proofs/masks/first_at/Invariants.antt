-- The invariant: the keys below `low` are below the key, and those from `high` on are not.
use Rattle.std.proofs.Common.{◌-◌}
use Rattle.reach.specs.SearchLaws.{Searches}
use Rattle.reach.proofs.masks.first_at.Given as goal

abbrev pub invariant-loop-low : goal.invariant-loop-low
invariant-loop-low l =
    Searches l.rows.bytes.now l.key l.low l.high

abbrev pub decreases-loop-low : goal.decreases-loop-low
decreases-loop-low l = l.high - l.low
