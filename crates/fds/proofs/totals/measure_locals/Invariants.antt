-- The invariant: the new local subroutines of the FDs in use below fd are measured, and none of these FDs fails.
use Rattle.record.specs.Record.{rows_of}
use Rattle.cff.specs.Loaded.{program}
use Rattle.fds.specs.NewLocalsLaws.{Summing}
use Rattle.fds.proofs.totals.measure_locals.Given as goal

abbrev pub invariant-loop-fd : goal.invariant-loop-fd
invariant-loop-fd l =
    Summing l.how.way (program l.fds.font) (rows_of l.rows) l.words l.fds.table.now l.how.globals l.fds.used.now l.totals l.fd
