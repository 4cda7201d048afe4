-- `found::names_found` meets its contract: it lends the empty marks and the ids that were seen, none; what that pass leaves open, sorting answers.
use Rattle.std.proofs.Common.{refl}
use Rattle.first_glyphs.specs.BitsLaws.{unseen}
use Rattle.found.specs.HashLaws.{marks_long, told_as}
use Rattle.found.specs.declared.Told.TheVariants.{Yes, No}
use Rattle.found.proofs.names_found.Goals as goal

pub names_met-met-requires : goal.names_met-met-requires
names_met-met-requires c = (marks_long _ refl, unseen _ refl)

pub returns-in-Yes : goal.returns-in-Yes
returns-in-Yes c = told_as _ Yes _ c.in-Yes.is c.names_met-met.ensures

pub returns-in-No : goal.returns-in-No
returns-in-No c = told_as _ No _ c.in-No.is c.names_met-met.ensures
