-- The invariant: the ranges of i glyphs were taken.
use Rattle.charset.specs.FdWriter.{Taken}
use Rattle.order_window.specs.Stays.{Stays}
use Rattle.glyph_tables.specs.Tables.{fds_kept, new_fds_by}
use Rattle.glyph_tables.proofs.select.each_range.Given as goal

abbrev pub invariant-loop-i : goal.invariant-loop-i
invariant-loop-i g l =
    Stays l.initial.kept l.kept × Taken g.S.Sink.takes l.initial.to (new_fds_by l.table (fds_kept l.initial.kept)) l.i l.last l.to
