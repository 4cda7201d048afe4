-- The invariant: the FDs in use below fd are listed.
use Rattle.std.proofs.Common.{◌≤◌}
use Rattle.fds.specs.ListLaws.{Listing}
use Rattle.fds.proofs.parts.list_used.Given as goal

abbrev pub invariant-loop-fd : goal.invariant-loop-fd
invariant-loop-fd l = (l.j ≤ l.fd) × Listing l.used l.initial.fds l.fds l.j l.fd
