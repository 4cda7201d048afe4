-- `cff::private::locals_at` meets its contract: each answer of `offset` is one case of `locals_at`.
use Rattle.std.proofs.Common.{ap, Ok}
use Rattle.refusal.specs.HandedOn.{handed_on}
use Rattle.cff.specs.Reads.{ReadsItems}
use Rattle.cff.specs.ReadsLaws.{locals-none, locals_refused, locals-read}
use Rattle.cff.proofs.private.locals_at.Goals as goal

pub returns-in_err-offset : goal.returns-in_err-offset
returns-in_err-offset c = handed_on _ _ (ReadsItems _ _) c.from_residual.ensures.1 (locals_refused _ _ _ _ c.in_err-offset.ensures)

pub returns-in-None : goal.returns-in-None
returns-in-None c = locals-none _ _ _ _ c.in_ok-offset.ensures (rw c.font.view_is at c.font.invariant) (ap Ok c.in-None.is) _ c.no_items.ensures

pub returns-in-Some : goal.returns-in-Some
returns-in-Some c = locals-read _ _ _ _ c.in_ok-offset.ensures _ (ap Ok c.in-Some.is) _ (rw c.font.view_is at c.items_at.ensures.0) (rw c.font.view_is at c.items_at.ensures.1)
