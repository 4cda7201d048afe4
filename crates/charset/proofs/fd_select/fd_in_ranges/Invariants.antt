-- The invariant: the glyph's range is the first from `low` on that ends behind it, and is below `high`.
use Rattle.std.proofs.Common.{◌-◌}
use Rattle.charset.specs.FdSearchLaws.{Searches}
use Rattle.charset.proofs.fd_select.fd_in_ranges.Given as goal

abbrev pub invariant-loop-low : goal.invariant-loop-low
invariant-loop-low l = Searches l.font l.at l.count l.first l.gid l.low l.high

abbrev pub decreases-loop-low : goal.decreases-loop-low
decreases-loop-low l = l.high - l.low
