-- `cff::private::private_data` meets its contract: its tests are those of `private_data`, in order.
use Rattle.std.proofs.Common.{ap, ◌∙◌, List, ℕ}
use Rattle.octets.specs.Lists.{part_of}
use Rattle.refusal.specs.HandedOn.{handed_on}
use Rattle.octets.specs.ListLaws.{span}
use Rattle.cff.specs.Reads.{ReadsPrivate}
use Rattle.cff.specs.ReadsLaws.{private-short, private-bad, private-unread, private-found}
use Rattle.cff.proofs.private.private_data.Goals as goal

pub returns-then-bytes-end : goal.returns-then-bytes-end
returns-then-bytes-end c = private-short _ _ _ (rw c.font.view_is at c.if-bytes-end.true)

pub returns-in_err-d : goal.returns-in_err-d
returns-in_err-d c = handed_on _ _ (ReadsPrivate _ _) c.from_residual.ensures.1 (private-bad _ _ _ (rw c.font.view_is at c.if-bytes-end.false) _ (span c.font.inside.bytes.now c.args.offset c.args.size ∙ ap (λ (b : List ℕ). part_of b c.args.offset c.args.size) c.font.view_is) _ c.in_err-d.ensures)

pub returns-in_err-locals : goal.returns-in_err-locals
returns-in_err-locals c = handed_on _ _ (ReadsPrivate _ _) c.from_residual-in_err-locals.ensures.1 (private-unread _ _ _ (rw c.font.view_is at c.if-bytes-end.false) _ (span c.font.inside.bytes.now c.args.offset c.args.size ∙ ap (λ (b : List ℕ). part_of b c.args.offset c.args.size) c.font.view_is) c.in_ok-d.ensures.0 _ (rw c.in_ok-d.ensures.1 at c.in_err-locals.ensures))

pub returns : goal.returns
returns c = private-found _ _ _ (rw c.font.view_is at c.if-bytes-end.false) _ (span c.font.inside.bytes.now c.args.offset c.args.size ∙ ap (λ (b : List ℕ). part_of b c.args.offset c.args.size) c.font.view_is) c.in_ok-d.ensures.0 _ (rw c.in_ok-d.ensures.1 at c.in_ok-locals.ensures)
