-- `capi::check::cff_check_record` meets its contract: the number of the refusal.
use Rattle.std.proofs.Common.{ap, ◌∙◌}
use Rattle.refusal.specs.Refusal.{number_or_0}
use Rattle.capi.proofs.check.cff_check_record.Goals as goal

pub returns : goal.returns
returns c = c.number_or_0.ensures ∙ ap number_or_0 c.check.ensures
