-- The invariant: the charstrings of the first i kept glyphs were written, only the window was moved, and the part of the record has what it says.
use Rattle.record.specs.Record.{rows_of}
use Rattle.mask_rows.specs.MaskRows.{CoversOrNone}
use Rattle.order_window.specs.Stays.{Stays}
use Rattle.bodies.specs.Ways.{many_of, every}
use Rattle.bodies.specs.WritingOut.{WritesOn}
use Rattle.glyph_bodies.specs.LoopLaws.{charstrings_by}
use Rattle.glyph_bodies.proofs.put_by_windows.Given as goal

abbrev pub invariant-loop-i : goal.invariant-loop-i
invariant-loop-i l =
    WritesOn l.initial.out l.to (many_of (charstrings_by l.from l.initial.kept.o.f (rows_of l.rows) l.words l.table l.font)) every l.n l.i l.i l.out
    × Stays l.initial.kept l.kept × CoversOrNone l.rows l.lent.bytes.now 2 0 l.masks
