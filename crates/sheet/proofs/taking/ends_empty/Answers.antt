-- `taking::ends_empty` meets its contract: a case of `ends_empty` each.
use Rattle.sheet.specs.TakingLaws.{empty-feed, empty_not}
use Rattle.sheet.proofs.taking.ends_empty.Goals as goal

pub returns-then-b-eq10 : goal.returns-then-b-eq10
returns-then-b-eq10 c = empty-feed _ _ c.if-b-eq10.true

pub returns : goal.returns
returns c = empty_not _ _ c.if-b-eq10.false
