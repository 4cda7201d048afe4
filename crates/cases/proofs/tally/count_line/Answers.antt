-- `tally::count_line` meets its contract: the count at the line's place is one more.
use Rattle.std.proofs.Common.{arith, false, refl, true}
use Rattle.cases.specs.TallyLaws.{counted-at}
use Rattle.cases.proofs.tally.count_line.Goals as goal

pub returns-then-agreed : goal.returns-then-agreed
returns-then-agreed c = counted-at c.args.kinds.now c.args.counts.now c.args.line.now _ c.row_of-row.ensures.0 true _ c.if-agreed.true _ (omega arith)

pub returns : goal.returns
returns c = counted-at c.args.kinds.now c.args.counts.now c.args.line.now _ c.row_of-row.ensures.0 false _ c.if-agreed.false _ refl
