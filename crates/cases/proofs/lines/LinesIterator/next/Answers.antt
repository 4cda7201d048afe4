-- `lines::Lines::next` meets its contract: the first line of the text, and the lines behind it.
use Rattle.std.proofs.Common.{rules}
use Rattle.cases.specs.LinesLaws.{lines_first, lines_none}
use Rattle.cases.proofs.lines.LinesIterator.next.Goals as goal

pub returns-then-is_empty-clause-steps : goal.returns-then-is_empty-clause-steps
returns-then-is_empty-clause-steps c =
    let none = lines_none c.args.self.now.rest.now (search rules) in
    (none, none)

pub returns-clause-steps : goal.returns-clause-steps
returns-clause-steps c = lines_first c.args.self.now.rest.now _ _ (search rules) c.place_of-end.ensures.0 c.min.ensures
