-- `failing::mark_fd` meets its contract: FDSelect gives the glyph's FD.
use Rattle.std.proofs.Common.{ap, set}
use Rattle.failing.specs.FailingLaws.{glyph_fd}
use Rattle.failing.proofs.mark_fd.Goals as goal

pub returns : goal.returns
returns c =
    let font = c.args.font.now in
    ap (λ k. set c.args.used.now k 1) (glyph_fd font.loaded.bytes.now font.loaded.f font.held c.args.g c.requires.0 _ c.fd_of-fd.ensures)
