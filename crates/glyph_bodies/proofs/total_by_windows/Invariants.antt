-- The invariant: the charstrings of the first i kept glyphs were measured, only the window was moved, and the part of the record has what it says.
use Rattle.record.specs.Record.{rows_of}
use Rattle.mask_rows.specs.MaskRows.{CoversOrNone}
use Rattle.order_window.specs.Stays.{Stays}
use Rattle.bodies.specs.Ways.{every}
use Rattle.bodies.specs.Sizes.{Adding}
use Rattle.glyph_bodies.specs.LoopLaws.{charstring_at}
use Rattle.glyph_bodies.proofs.total_by_windows.Given as goal

abbrev pub invariant-loop-i : goal.invariant-loop-i
invariant-loop-i l =
    Adding (charstring_at l.from l.initial.kept.o.f (rows_of l.rows) l.words l.table l.font) every l.n l.i l.total × Stays l.initial.kept l.kept
    × CoversOrNone l.rows l.lent.bytes.now 2 0 l.masks
