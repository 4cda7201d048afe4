-- `cff::font::cid_parts` meets its contract: the FD array is the first step of `cid_parts`.
use Rattle.std.specs.Prelude.{true}
use Rattle.refusal.specs.HandedOn.{handed_on}
use Rattle.dict.specs.Held.{entries}
use Rattle.cff.specs.Font.{cid_parts}
use Rattle.cff.specs.Reads.{ReadsParts}
use Rattle.cff.specs.FontLaws.{has-dicts, cid_unread}
use Rattle.cff.proofs.font.cid_parts.Goals as goal

pub returns-in_err-dicts : goal.returns-in_err-dicts
returns-in_err-dicts c =
    handed_on _ _ (ReadsParts c.args.font.now true c.args.n (cid_parts c.args.font.now (entries c.args.d.now) c.args.n)) c.from_residual.ensures.1
    (cid_unread c.args.font.now (entries c.args.d.now) c.args.n _ (rw c.font.view_is at c.named_index.ensures) _ c.in_err-dicts.was)

pub dict_parts-requires : goal.dict_parts-requires
dict_parts-requires c = (c.requires, has-dicts c.args.font.now (entries c.args.d.now) c.args.n _ (rw c.font.view_is at c.named_index.ensures) _ c.in_ok-dicts.was)
