-- `fds::rank_all` meets its contract: words that are cleared, marked and counted.
use Rattle.std.proofs.Common.{rules}
use Rattle.glyph_tables.specs.MarkLaws.{ranked_fds}
use Rattle.glyph_tables.proofs.fds.rank_all.Goals as goal

pub returns : goal.returns
returns c =
    let e = ranked_fds _ c.args.table.now _ _ _ _ c.requires (c.fill.ensures.after (search rules)) c.mark_fds.ensures.0 c.rank_marks.ensures in
    (e.0, e.1, c.mark_fds.ensures.1)
