-- `bodies::subrs::put_windowed` meets its contract: a window that has the subroutine's rows says of it what the whole record says.
use Rattle.bodies.specs.WindowsLaws.{subr_window-room, subr_window-writes}
use Rattle.mask_rows.specs.FillLaws.{covers_some, covers_none, has_some}
use Rattle.bodies.proofs.subrs.put_windowed.Goals as goal

pub rows-requires : goal.rows-requires
rows-requires c = (covers_some c.in-Some.is c.requires.0).fits

pub returns-then-one-window : goal.returns-then-one-window
returns-then-one-window c = (c.put_subr.ensures, c.requires.0)

pub put_subr-requires-2 : goal.put_subr-requires-2
put_subr-requires-2 c =
    subr_window-room _ _ _ c.args.one.now.of.now.from (covers_some c.in-Some.is c.requires.0) _ _ _ c.rows.ensures c.in_order.result c.in_order.ensures _ c.if-one-window.false (has_some c.in-Some.is c.requires.1) _ _ c.requires.2 c.requires.3

pub returns : goal.returns
returns c =
    (subr_window-writes _ _ _ c.args.one.now.of.now.from (covers_some c.in-Some.is c.requires.0) _ _ _ c.rows.ensures c.in_order.result c.in_order.ensures _ c.if-one-window.false (has_some c.in-Some.is c.requires.1) c.put_subr-2.ensures, c.requires.0)

pub put_long-requires : goal.put_long-requires
put_long-requires c = (c.requires.2, c.requires.3)

pub returns-in_default : goal.returns-in_default
returns-in_default c = (c.put_long.ensures, covers_none c.in_default.is _ _ _ _)
