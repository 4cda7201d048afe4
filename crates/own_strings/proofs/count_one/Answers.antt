-- `own_strings::count_one` meets its contract: one more where the id is the next.
use Rattle.own_strings.specs.TurnLaws.{count_low, count_same, count_next}
use Rattle.own_strings.proofs.count_one.Goals as goal

pub returns-then-x-lt391 : goal.returns-then-x-lt391
returns-then-x-lt391 c = count_low _ c.args.own _ _ c.if-x-lt391.true

pub returns-then-id-count : goal.returns-then-id-count
returns-then-id-count c = count_same _ c.args.own _ _ c.if-x-lt391.false c.if-id-count.true

pub returns : goal.returns
returns c = count_next _ c.args.own _ _ c.if-x-lt391.false c.if-id-count.false _ c.own_text-text.ensures
