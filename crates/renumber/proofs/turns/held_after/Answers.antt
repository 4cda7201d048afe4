-- `renumber::turns::held_after` meets its contract: a number that is measured is a reading.
use Rattle.std.proofs.Common.{ap, sym, Some, ◌∙◌}
use Rattle.renumber.specs.Turn.{waiting_in}
use Rattle.renumber.specs.TurnLaws.{after_holds}
use Rattle.renumber.proofs.turns.held_after.Goals as goal

pub of-requires : goal.of-requires
of-requires c = after_holds _ _ (sym c.after.ensures ∙ c.in-Some.is) c.requires

pub returns-in-None : goal.returns-in-None
returns-in-None c = ap waiting_in (sym c.in-None.is ∙ c.after.ensures)

pub returns-in-Some : goal.returns-in-Some
returns-in-Some c = ap Some c.of.ensures ∙ ap waiting_in (sym c.in-Some.is ∙ c.after.ensures)
