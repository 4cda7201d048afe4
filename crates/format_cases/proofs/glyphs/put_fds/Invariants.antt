-- The invariant: the cursor stands before the glyph of the turn, and writing the FDs from there on gives what writing all gives.
use Rattle.std.proofs.Common.{drop, length, ◌+◌, ◌≡◌}
use Rattle.index.specs.Write.{table_bytes}
use Rattle.charset.specs.FdPlaces.{fds_of, StandsFd}
use Rattle.charset.specs.declared.fd_select.FdSelect.{FdSelect}
use Rattle.charset.specs.declared.fd_select.FdCursor.{FdCursor}
use Rattle.cases.specs.Adding.{Adding}
use Rattle.format_cases.proofs.glyphs.put_fds.Given as goal

-- the FDSelect of its first cursor
abbrev pub of : FdCursor → FdSelect
of u = record { count = u.count; first = u.end; wide = u.wide; at = u.at }

abbrev pub invariant-loop : goal.invariant-loop
invariant-loop l =
    StandsFd l.font (of l.initial.u) l.counter l.u × (length l.to ≡ length l.initial.to + l.counter)
    × Adding l.initial.to (table_bytes 1 (fds_of l.font (of l.initial.u) l.n)) l.to (table_bytes 1 (drop l.counter (fds_of l.font (of l.initial.u) l.n)))
