use Rattle.record.specs.Record.{rows_of}
use Rattle.cff.specs.Loaded.{program}
use Rattle.failing.specs.FailingLaws.{Asking}
use Rattle.failing.proofs.first_failing.Given as goal

abbrev pub invariant-loop-i : goal.invariant-loop-i
invariant-loop-i l = Asking (program l.by.list.font.loaded) (rows_of l.by.rows.bytes.now) l.by.list.keep.now l.i
