-- The invariant: the names before low are less than the text, and those from high on more.
use Rattle.std.proofs.Common.{◌-◌, ◌≤◌}
use Rattle.strings.proofs.SearchLaws.{Narrowed}
use Rattle.strings.proofs.sid_of.Given as goal

abbrev pub invariant-loop-low : goal.invariant-loop-low
invariant-loop-low l = (l.low ≤ l.high) × (l.high ≤ 391) × Narrowed l.text l.low l.high

abbrev pub decreases-loop-low : goal.decreases-loop-low
decreases-loop-low l = l.high - l.low
