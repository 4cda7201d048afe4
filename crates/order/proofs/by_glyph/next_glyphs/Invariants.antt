-- The invariant: the cursor stands before glyph g, and the k words in the window with the glyphs that are left are those that were left at first; of whatever charset the cursor stood in.
use Rattle.std.proofs.Common.{length, ◌≤◌}
use Rattle.bits.specs.Bits.{bit_in}
use Rattle.charset.specs.declared.CharsetCursor.{CharsetCursor}
use Rattle.find.specs.FindLaws.{ids_ahead, Passing}
use Rattle.order.specs.WalkLaws.{Taking}
use Rattle.order.proofs.by_glyph.next_glyphs.Given as goal

abbrev pub invariant-loop-g : goal.invariant-loop-g
invariant-loop-g l =
    (l.k ≤ length l.initial.window)
    × ((v : CharsetCursor) → Passing l.bytes v l.n l.initial.u l.fn.at → Passing l.bytes v l.n l.u l.g × Taking (ids_ahead l.bytes v l.n) (bit_in l.words 0) l.n l.fn.at l.initial.window l.window l.k l.g)
