-- The invariant: a slot that has a glyph has the first of its id, and another waits for the glyphs that are left.
use Rattle.std.proofs.Common.{length, ◌≡◌}
use Rattle.find.specs.FindLaws.{ids_ahead, Passing}
use Rattle.find_many.specs.ManyLaws.{Settled}
use Rattle.find_many.proofs.cids.fill.Given as goal

abbrev pub invariant-loop-g : goal.invariant-loop-g
invariant-loop-g l =
    Passing l.glyphs.bytes.now l.initial.u l.glyphs.n l.u l.g × (length l.slots ≡ 65536) × Settled (ids_ahead l.glyphs.bytes.now l.initial.u l.glyphs.n) l.g l.slots
