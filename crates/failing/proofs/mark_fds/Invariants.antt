use Rattle.cff.specs.Loaded.{program}
use Rattle.failing.specs.FailingLaws.{Marking}
use Rattle.failing.proofs.mark_fds.Given as goal

abbrev pub invariant-loop-g : goal.invariant-loop-g
invariant-loop-g l = Marking (program l.list.font.loaded) l.list.keep.now l.g-index l.used
