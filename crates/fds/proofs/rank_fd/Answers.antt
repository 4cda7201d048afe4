-- `fds::rank_fd` meets its contract: the Private DICT of the FD has as many locals as its INDEX.
use Rattle.std.proofs.Common.{ap, arith}
use Rattle.bits.specs.Bits.{words_for}
use Rattle.cff.specs.Loaded.{program}
use Rattle.fds.specs.LocalsLaws.{locals-count, fd-ranked}
use Rattle.fds.proofs.rank_fd.Goals as goal

pub rank_reached-r-requires : goal.rank_reached-r-requires
rank_reached-r-requires c =
    let n = locals-count _ _ _ c.fd_private-q.ensures in
    let e = ap words_for n.0 in
    (c.requires.0, n.1, omega (arith, e, c.requires.1))

pub returns : goal.returns
returns c =
    let n = locals-count _ _ _ c.fd_private-q.ensures in
    let f = fd-ranked (program c.args.of.now.font) _ _ _ _ _ _ _ n.0 c.rank_reached-r.ensures in
    (f.0, f.1, n.1)
