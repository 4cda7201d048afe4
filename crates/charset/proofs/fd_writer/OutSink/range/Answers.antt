-- `Out::range` meets its contract: a range is the number of its first glyph and its FD.
use Rattle.std.proofs.Common.{arith, sym, ◌∙◌, [], ◌∷◌}
use Rattle.octets.specs.OctetsLaws.{length-bytes}
use Rattle.octets.specs.PutLaws.{wrote_then, wrote_as}
use Rattle.charset.specs.FdSelectBytesLaws.{entry_length}
use Rattle.charset.specs.FdWriterLaws.{one_entry}
use Rattle.charset.proofs.fd_writer.OutSink.range.Goals as goal

pub num-requires : goal.num-requires
num-requires c = omega (arith, c.requires, entry_length ((c.args.first, c.args.fd) ∷ []))

pub byte-requires : goal.byte-requires
byte-requires c = omega (arith, c.requires, entry_length ((c.args.first, c.args.fd) ∷ []), c.num.ensures.wrote.behind, c.num.ensures.size, length-bytes 2 c.args.first)

pub returns : goal.returns
returns c =
    let a = c.num.ensures in
    let b = c.byte.ensures in
    record {
      wrote = wrote_as (wrote_then (omega (arith, c.requires)) a.wrote b.wrote) (sym (one_entry c.args.first c.args.fd));
      same = b.same ∙ a.same;
      size = b.size ∙ a.size;
    }
