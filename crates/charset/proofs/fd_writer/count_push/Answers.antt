-- `charset::fd_writer::count_push` meets its contract: the one test of `pushed`.
use Rattle.std.proofs.Common.{refl}
use Rattle.charset.specs.FdWriterLaws.{same-state, new-state}
use Rattle.charset.proofs.fd_writer.count_push.Goals as goal

pub returns-then-last-w : goal.returns-then-last-w
returns-then-last-w c = same-state _ _ c.if-last-w.true

pub returns : goal.returns
returns c = new-state _ _ c.if-last-w.false _ refl
