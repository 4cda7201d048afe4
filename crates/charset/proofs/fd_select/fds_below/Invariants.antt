-- The invariant: the cursor stands before glyph g, and the glyphs from there on give what all give.
use Rattle.std.proofs.Common.{◌-◌, ◌≡◌}
use Rattle.octets.specs.Lists.{all_below}
use Rattle.charset.specs.Listed.{list_of}
use Rattle.charset.specs.FdPlaces.{fd_of, fds_of, StandsFd}
use Rattle.charset.specs.declared.fd_select.FdSelect.{FdSelect}
use Rattle.charset.specs.declared.fd_select.FdCursor.{FdCursor}
use Rattle.charset.proofs.fd_select.fds_below.Given as goal

-- the FDSelect of its first cursor
abbrev pub of : FdCursor → FdSelect
of u = record { count = u.count; first = u.end; wide = u.wide; at = u.at }

abbrev pub invariant-loop-g : goal.invariant-loop-g
invariant-loop-g l =
    StandsFd l.font (of l.initial.u) l._g l.u × (all_below l.count (list_of (fd_of l.font (of l.initial.u)) l._g (l.n - l._g)) ≡ all_below l.count (fds_of l.font (of l.initial.u) l.n))
