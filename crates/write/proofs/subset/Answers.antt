-- `write::subset` meets its contract: the cut that is asked for.
use Rattle.write.proofs.subset.Goals as goal

pub returns : goal.returns
returns c =
    let r = c.new-ask.ensures in
    rw (c.new-c.ensures, r.0, r.1, r.2, r.3) at c.cut.ensures
