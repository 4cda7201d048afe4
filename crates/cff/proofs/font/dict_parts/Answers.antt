-- `cff::font::dict_parts` meets its contract: the Private DICTs of the FD array were read, and an array of none is malformed.
use Rattle.std.specs.Prelude.{true}
use Rattle.refusal.specs.HandedOn.{handed_on}
use Rattle.dict.specs.Held.{entries}
use Rattle.cff.specs.Font.{cid_parts}
use Rattle.cff.specs.Reads.{ReadsParts}
use Rattle.cff.specs.FontLaws.{cid_empty, has-locals, cid_bad}
use Rattle.cff.proofs.font.dict_parts.Goals as goal

pub returns-in_err-total : goal.returns-in_err-total
returns-in_err-total c =
    handed_on _ _ (ReadsParts c.args.font.now true c.args.n (cid_parts c.args.font.now (entries c.args.d.now) c.args.n)) c.from_residual.ensures.1
    (cid_bad c.args.font.now (entries c.args.d.now) c.args.n c.args.dicts c.requires.1 _ c.read_privates.ensures _ c.in_err-total.was)

pub returns-then-dicts-eq0 : goal.returns-then-dicts-eq0
returns-then-dicts-eq0 c = cid_empty c.args.font.now (entries c.args.d.now) c.args.n c.args.dicts c.requires.1 _ c.read_privates.ensures _ c.in_ok-total.was c.if-dicts-eq0.true

pub fd_parts-requires : goal.fd_parts-requires
fd_parts-requires c = (c.requires.0, has-locals c.args.font.now (entries c.args.d.now) c.args.n c.args.dicts c.requires.1 _ c.read_privates.ensures _ c.in_ok-total.was c.if-dicts-eq0.false)
