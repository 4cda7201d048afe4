-- `cff::remembered::Remembered::fd_private` meets its contract: what was read of the FD names its Private DICT, and none is one of no bytes at 0.
use Rattle.std.proofs.Common.{ap, Ok}
use Rattle.refusal.specs.HandedOn.{handed_on}
use Rattle.cff.specs.Reads.{ReadsNext}
use Rattle.cff.specs.ReadsLaws.{next-none, next-read, fd-told, fd_unread}
use Rattle.cff.proofs.remembered.Remembered.fd_private.Goals as goal

pub returns-in_err-read_private : goal.returns-in_err-read_private
returns-in_err-read_private c =
    handed_on _ _ (ReadsNext _ _) c.from_residual.ensures.1 (fd_unread c.args.self.now.font.now c.args.d.now _ c.in_err-read_private.ensures)

pub returns-in-None : goal.returns-in-None
returns-in-None c =
    fd-told c.args.self.now.font.now c.args.d.now _ (next-none c.args.self.now.font.now _ _ c.in_ok-read_private.ensures (ap Ok c.in-None.is) c.seen_private.result c.seen_private.ensures)

pub returns-in-Some : goal.returns-in-Some
returns-in-Some c =
    fd-told c.args.self.now.font.now c.args.d.now _
    (next-read c.args.self.now.font.now _ _ c.in_ok-read_private.ensures _ _ (ap Ok c.in-Some.is) c.seen_private-in-Some.result c.seen_private-in-Some.ensures)
