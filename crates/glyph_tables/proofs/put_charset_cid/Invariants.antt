-- The invariant: the CIDs of i glyphs are written, of which the format was the beginning.
use Rattle.order_window.specs.Stays.{Stays}
use Rattle.glyph_tables.specs.Tables.{cids_kept}
use Rattle.glyph_tables.specs.PartLaws.{CharsetPut}
use Rattle.glyph_tables.proofs.put_charset_cid.Given as goal

abbrev pub invariant-loop-i : goal.invariant-loop-i
invariant-loop-i l = Stays l.initial.kept l.kept × CharsetPut l.fn.out (cids_kept l.initial.kept) l.out l.i
