-- `charset::fd_select::read_ranges` meets its contract: the count and the first glyph are read, and the ranges are checked.
use Rattle.std.proofs.Common.{arith}
use Rattle.charset.specs.FdPlaces.{ranges_at}
use Rattle.charset.specs.FdLaws.{table_lost, table-ranges}
use Rattle.charset.proofs.fd_select.read_ranges.Goals as goal

pub returns-then-font-at-lt4 : goal.returns-then-font-at-lt4
returns-then-font-at-lt4 c =
    let a = c.args in
    table_lost a.font.now a.at a.n (ranges_at a.font.now a.at) c.if-font-at-lt4.true

pub returns : goal.returns
returns c =
    let a = c.args in
    table-ranges a.font.now a.at a.n _ _ _ (omega arith) c.u16_at-count.ensures.0 c.u16_at-first.ensures.0 c.check_ends.ensures
