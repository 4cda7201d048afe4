-- `listed::window_listed` meets its contract: all marks are clear before the pass.
use Rattle.std.proofs.Common.{ap, not, refl, ◌∙◌}
use Rattle.listed.specs.ListedLaws.{window-seen}
use Rattle.listed.proofs.window_listed.Goals as goal

pub returns : goal.returns
returns c = ap not c.contains.ensures.value ∙ window-seen _ _ _ _ c.requires refl c.see_rows.ensures
