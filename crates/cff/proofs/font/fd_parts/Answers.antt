-- `cff::font::fd_parts` meets its contract: past the FD array and the Private DICTs the FDSelect decides.
use Rattle.std.specs.Prelude.{true}
use Rattle.refusal.specs.HandedOn.{handed_on}
use Rattle.dict.specs.Held.{entries}
use Rattle.cff.specs.Font.{cid_parts}
use Rattle.cff.specs.Reads.{ReadsParts}
use Rattle.cff.specs.FontLaws.{cid_selected, cid-found, cid_unselected, cid_past}
use Rattle.cff.proofs.font.fd_parts.Goals as goal

pub returns-in_err-select : goal.returns-in_err-select
returns-in_err-select c =
    handed_on _ _ (ReadsParts c.args.font.now true c.args.n (cid_parts c.args.font.now (entries c.args.d.now) c.args.n)) c.from_residual.ensures.1
    (cid_unselected c.args.font.now (entries c.args.d.now) c.args.n c.args.dicts c.args.total c.requires.1 _ (rw c.font.view_is at c.read_fds.ensures) _ c.in_err-select.was)

pub fds_below-requires : goal.fds_below-requires
fds_below-requires c = (rw c.font.view_is (cid_selected c.args.font.now (entries c.args.d.now) c.args.n c.args.dicts c.args.total c.requires.1 _ (rw c.font.view_is at c.read_fds.ensures) _ c.in_ok-select.was), c.requires.0)

pub returns-then-fds_below : goal.returns-then-fds_below
returns-then-fds_below c = cid-found c.args.font.now (entries c.args.d.now) c.args.n c.args.dicts c.args.total c.requires.1 _ (rw c.font.view_is at c.read_fds.ensures) _ c.in_ok-select.was _ (rw c.font.view_is at c.fds_below.ensures) c.if-fds_below.true (rw c.font.view_is at c.font.invariant) _ c.no_private.ensures

pub returns : goal.returns
returns c = cid_past c.args.font.now (entries c.args.d.now) c.args.n c.args.dicts c.args.total c.requires.1 _ (rw c.font.view_is at c.read_fds.ensures) _ c.in_ok-select.was _ (rw c.font.view_is at c.fds_below.ensures) c.if-fds_below.false
