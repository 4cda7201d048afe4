-- `charset::fd_writer::finish` meets its contract: the two parts in front and the one behind.
use Rattle.std.proofs.Common.{arith}
use Rattle.charset.specs.FdWriterLaws.{finished}
use Rattle.charset.proofs.fd_writer.finish.Goals as goal

pub returns : goal.returns
returns c =
    finished _ (omega arith) c.put_byte-p.ensures c.put_num.ensures c.put_num-2.ensures
