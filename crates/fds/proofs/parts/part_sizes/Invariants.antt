-- The invariant: the parts of the FDs in use below fd are measured.
use Rattle.std.proofs.Common.{◌≤◌}
use Rattle.cff.specs.Loaded.{program}
use Rattle.fds.specs.PartsLaws.{Measuring}
use Rattle.fds.proofs.parts.part_sizes.Given as goal

abbrev pub invariant-loop-fd : goal.invariant-loop-fd
invariant-loop-fd l =
    (l.j ≤ l.fd)
    × Measuring (program l.fds.font) l.way l.fds.table.now l.totals l.fds.used.now l.initial.parts l.parts l.all l.j l.fd
