-- `cff::font::read_fds` meets its contract: each answer of `offset` is one case of `fds_at`.
use Rattle.std.proofs.Common.{ap, ◌∙◌, Ok}
use Rattle.refusal.specs.HandedOn.{handed_on}
use Rattle.dict.specs.Held.{entries}
use Rattle.dict.specs.Lookup.{offset_in}
use Rattle.cff.specs.Font.{fd_select_lem, fds_at}
use Rattle.cff.specs.Reads.{ReadsFds}
use Rattle.cff.specs.FontLaws.{fds_none, fds_refused, fds_read}
use Rattle.cff.proofs.font.read_fds.Goals as goal

pub returns-in_err-offset : goal.returns-in_err-offset
returns-in_err-offset c =
    handed_on _ _ (ReadsFds c.args.font.now c.args.n (fds_at c.args.font.now c.args.n (offset_in fd_select_lem (entries c.args.d.now)))) c.from_residual.ensures.1
    (fds_refused c.args.font.now c.args.n (offset_in fd_select_lem (entries c.args.d.now)) _ c.offset.ensures _ c.in_err-offset.was)

pub returns-in-None : goal.returns-in-None
returns-in-None c = fds_none c.args.font.now c.args.n (offset_in fd_select_lem (entries c.args.d.now)) _ c.offset.ensures (c.in_ok-offset.was ∙ ap Ok c.in-None.is) _ c.no_fd_select.ensures

pub returns-in-Some : goal.returns-in-Some
returns-in-Some c = fds_read c.args.font.now c.args.n (offset_in fd_select_lem (entries c.args.d.now)) _ c.offset.ensures _ (c.in_ok-offset.was ∙ ap Ok c.in-Some.is) c.read_fd_select.result c.read_fd_select.ensures
