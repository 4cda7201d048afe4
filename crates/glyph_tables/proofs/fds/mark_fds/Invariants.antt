-- The invariant: the FDs of i glyphs are marked.
use Rattle.order_window.specs.Stays.{Stays}
use Rattle.glyph_tables.specs.Tables.{fds_kept}
use Rattle.glyph_tables.specs.MarkLaws.{FdsMarked}
use Rattle.glyph_tables.proofs.fds.mark_fds.Given as goal

abbrev pub invariant-loop-i : goal.invariant-loop-i
invariant-loop-i l = Stays l.initial.kept l.kept × FdsMarked (fds_kept l.initial.kept) l.initial.marks l.marks l.i
