-- The invariant: the parts of the FDs in use below fd are written.
use Rattle.octets.specs.Out.{Writes}
use Rattle.record.specs.Record.{rows_of}
use Rattle.cff.specs.Loaded.{program}
use Rattle.fds.specs.Locals.{used_below}
use Rattle.fds.specs.NewParts.{parts_for}
use Rattle.fds.proofs.privates.put_privates.Given as goal

abbrev pub invariant-loop-fd : goal.invariant-loop-fd
invariant-loop-fd l =
    Writes l.initial.out (parts_for l.how.way (program l.fds.font) (rows_of l.rows) l.words l.fds.table.now l.how.globals (used_below l.fds.used.now l.fd)) l.out
