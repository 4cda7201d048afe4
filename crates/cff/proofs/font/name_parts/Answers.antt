-- `cff::font::name_parts` meets its contract: its steps are those of `name_parts`.
use Rattle.std.specs.Prelude.{false}
use Rattle.std.proofs.Common.{subst}
use Rattle.refusal.specs.HandedOn.{handed_on}
use Rattle.dict.specs.Held.{entries}
use Rattle.cff.specs.Font.{name_parts}
use Rattle.cff.specs.Reads.{ReadsPrivate, ReadsParts}
use Rattle.cff.specs.ReadsLaws.{few-locals}
use Rattle.cff.specs.FontLaws.{name_unencoded, name-unread, name-found}
use Rattle.cff.proofs.font.name_parts.Goals as goal

pub returns-in_err-private : goal.returns-in_err-private
returns-in_err-private c =
    handed_on _ _ (ReadsParts c.args.font.now false c.args.n (name_parts c.args.font.now (entries c.args.d.now) c.args.n)) c.from_residual.ensures.1
    (name-unread c.args.font.now (entries c.args.d.now) c.args.n _ c.named_private.ensures _ c.in_err-private.was)

pub returns-in_err-encoding : goal.returns-in_err-encoding
returns-in_err-encoding c =
    handed_on _ _ (ReadsParts c.args.font.now false c.args.n (name_parts c.args.font.now (entries c.args.d.now) c.args.n)) c.from_residual-in_err-encoding.ensures.1
    (name_unencoded c.args.font.now (entries c.args.d.now) c.args.n _ c.named_private.ensures _ c.in_ok-private.was _ (rw c.font.view_is at c.read_encoding.ensures) _ c.in_err-encoding.was)

pub words_for-requires : goal.words_for-requires
words_for-requires c = few-locals c.args.font.now _ _ (subst (ReadsPrivate c.args.font.now _) c.in_ok-private.was c.named_private.ensures)

pub returns : goal.returns
returns c = name-found c.args.font.now (entries c.args.d.now) c.args.n _ c.named_private.ensures _ c.in_ok-private.was _ (rw c.font.view_is at c.read_encoding.ensures) _ c.in_ok-encoding.was (rw c.font.view_is at c.font.invariant) _ c.no_items.ensures _ c.no_fd_select.ensures _ c.words_for.ensures.0
