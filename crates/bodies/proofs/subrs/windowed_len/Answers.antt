-- `bodies::subrs::windowed_len` meets its contract: a window that has the subroutine's rows says of it what the whole record says.
use Rattle.bodies.specs.WindowsLaws.{subr_window_len}
use Rattle.mask_rows.specs.FillLaws.{covers_some, covers_none, has_some}
use Rattle.bodies.proofs.subrs.windowed_len.Goals as goal

pub returns-then-one-window : goal.returns-then-one-window
returns-then-one-window c = (c.subr_len.ensures.0, c.subr_len.ensures.1, c.requires.0)

pub rows-requires : goal.rows-requires
rows-requires c = (covers_some c.in-Some.is c.requires.0).fits

pub returns : goal.returns
returns c =
    let r = subr_window_len _ _ _ c.args.one.now.of.now.from (covers_some c.in-Some.is c.requires.0) _ _ _ c.rows.ensures c.in_order.result c.in_order.ensures _ c.if-one-window.false (has_some c.in-Some.is c.requires.1) _ c.subr_len-2.ensures in
    (r.0, r.1, c.requires.0)

pub returns-in_default : goal.returns-in_default
returns-in_default c = (c.long_len.ensures.0, c.long_len.ensures.1, covers_none c.in_default.is _ _ _ _)
