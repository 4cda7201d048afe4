-- `reach::ranks::rank_reached` meets its contract: the globals are the rows of kind 1 and FD 0, the locals those of kind 0 and their FD.
use Rattle.reach.specs.RankLaws.{globals-set, locals-set, ranked-part}
use Rattle.reach.proofs.ranks.rank_reached.Goals as goal

pub returns-in-Global : goal.returns-in-Global
returns-in-Global c =
    ranked-part _ _ _ _ _ _ _ _ (globals-set _ _ c.in-Global.is) c.words_for.ensures.0 c.requires.2 c.rank_rows.ensures

pub returns-in-Local : goal.returns-in-Local
returns-in-Local c =
    ranked-part _ _ _ _ _ _ _ _ (locals-set _ _ _ c.in-Local.is) c.words_for.ensures.0 c.requires.2 c.rank_rows-in-Local.ensures
