-- The invariant: the way that is left from here ends where the whole way ends.
use Rattle.std.proofs.Common.{◌≡◌}
use Rattle.charset.specs.FdPlaces.{into_range_lem, ReadyFd}
use Rattle.charset.proofs.fd_select.into_range.Given as goal

abbrev pub invariant-loop-count : goal.invariant-loop-count
invariant-loop-count l =
    ReadyFd l.font (record { gid = l.gid; fd = l.fd; end = l.end; count = l.count; wide = l.wide; at = l.at })
    × (into_range_lem l.font l.count (record { gid = l.gid; fd = l.fd; end = l.end; count = l.count; wide = l.wide; at = l.at })
    ≡ into_range_lem l.font l.initial.count (record { gid = l.gid; fd = l.initial.fd; end = l.initial.end; count = l.initial.count; wide = l.wide; at = l.initial.at }))

abbrev pub decreases-loop-count : goal.decreases-loop-count
decreases-loop-count l = l.count
