-- `fds::rank_fds` meets its contract: the first 256 words are ranked, the others stay.
use Rattle.glyph_tables.specs.MarkLaws.{ranked-table}
use Rattle.glyph_tables.proofs.fds.rank_fds.Goals as goal

pub returns : goal.returns
returns c =
    let e = c.rank_all.ensures in
    (ranked-table _ _ _ e.0, e.1, e.2)
