-- `reach::ranks::rank_rows` meets its contract: words that are cleared, whose bits are set and counted.
use Rattle.std.proofs.Common.{rules}
use Rattle.reach.specs.RankLaws.{ranked-rows}
use Rattle.reach.proofs.ranks.rank_rows.Goals as goal

pub returns : goal.returns
returns c =
    ranked-rows _ c.before.args.held.now _ _ _ _ _ _ (λ i. (c.type_inv.rows i).fits) c.before.requires.0 c.before.requires.1 (c.fill.ensures.after (search rules)) c.mark_rows-all.ensures _ c.sums_of.ensures
