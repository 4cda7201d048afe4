-- `charset::fd_writer::begin` meets its contract: it is the writer of no glyph.
use Rattle.charset.specs.FdWriterLaws.{begun}
use Rattle.charset.proofs.fd_writer.begin.Goals as goal

pub returns : goal.returns
returns c = begun _
