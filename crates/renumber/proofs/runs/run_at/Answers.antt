-- `renumber::runs::run_at` meets its contract: a mask that is due is no plain token.
use Rattle.renumber.specs.RunLaws.{run_none, within_not_due, run_not_due}
use Rattle.renumber.proofs.runs.run_at.Goals as goal

pub returns-then-due : goal.returns-then-due
returns-then-due c = run_none _ _ _ _ _ c.requires.inside

pub plain_run-requires : goal.plain_run-requires
plain_run-requires c = within_not_due _ _ _ _ _ c.if-due.false c.requires

pub returns : goal.returns
returns c = run_not_due _ _ _ _ _ c.if-due.false _ c.plain_run.ensures
