-- `codes::fill` meets its contract: what is behind the first 256 places stays.
use Rattle.cff.specs.Loaded.{program}
use Rattle.codes.specs.FilledLaws.{filled_first}
use Rattle.codes.proofs.fill.Goals as goal

pub returns-in-Some : goal.returns-in-Some
returns-in-Some c =
    filled_first (program c.args.font.now) c.args.table.now _ _ _ c.requires.2 c.in-Some.ensures.cases.same c.fill_all.ensures
