-- `reach::ranks::sums_of` meets its contract.
use Rattle.reach.specs.RankLaws.{counts_as}
use Rattle.reach.proofs.ranks.sums_of.Goals as goal

pub returns : goal.returns
returns c =
    counts_as c.args.held.now c.args.all _ _ _ _ c.eighth-e.ensures c.whole_ones-reached.ensures.0 c.four_sums-low.ensures c.four_sums-high.ensures
