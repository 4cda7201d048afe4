-- `renumbered::held_len` meets its contract: the cases of the definition.
use Rattle.std.proofs.Common.{ap, sym, ◌∙◌}
use Rattle.renumber.specs.Turn.{held_len_lem}
use Rattle.renumbered.proofs.held_len.Goals as goal

pub returns-in-Some : goal.returns-in-Some
returns-in-Some c = c.number_len.ensures ∙ ap held_len_lem (sym c.in-Some.is)
