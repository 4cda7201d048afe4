-- The invariant: the locals of the FDs in use below fd have their bits.
use Rattle.record.specs.Record.{rows_of}
use Rattle.cff.specs.Loaded.{program}
use Rattle.fds.specs.LocalsLaws.{Ranking}
use Rattle.fds.proofs.rank_locals.Given as goal

abbrev pub invariant-loop-fd : goal.invariant-loop-fd
invariant-loop-fd l =
    Ranking (program l.fds.font) (rows_of l.rows) l.fds.used.now l.at l.initial.words l.words l.table l.place l.all l.fd
