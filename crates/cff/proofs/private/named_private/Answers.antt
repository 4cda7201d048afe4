-- `cff::private::named_private` meets its contract: each answer of `private_of` is one case of `private_at`.
use Rattle.std.proofs.Common.{ap, Ok}
use Rattle.refusal.specs.HandedOn.{handed_on}
use Rattle.cff.specs.Reads.{ReadsPrivate}
use Rattle.cff.specs.ReadsLaws.{private-none, private_refused, private-read}
use Rattle.cff.proofs.private.named_private.Goals as goal

pub returns-in_err-private_of : goal.returns-in_err-private_of
returns-in_err-private_of c = handed_on _ _ (ReadsPrivate _ _) c.from_residual.ensures.1 (private_refused _ _ _ c.in_err-private_of.ensures)

pub returns-in-None : goal.returns-in-None
returns-in-None c = private-none _ _ _ c.in_ok-private_of.ensures (rw c.font.view_is at c.font.invariant) (ap Ok c.in-None.is) _ c.no_private.ensures

pub returns-in-Some : goal.returns-in-Some
returns-in-Some c = private-read c.args.font.now _ _ c.in_ok-private_of.ensures _ _ (ap Ok c.in-Some.is) c.private_data.result c.private_data.ensures
