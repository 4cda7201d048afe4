-- The invariant: the glyphs before g were passed, and the ids that are left rise from `low` on exactly where all do.
use Rattle.bits.specs.Bits.{bit_in}
use Rattle.charset.specs.Ahead.{Passed}
use Rattle.charset.specs.Ids.{ids}
use Rattle.charset.specs.Iter.{ids_left}
use Rattle.order.specs.RiseLaws.{Rising}
use Rattle.order.proofs.by_glyph.rises.Given as goal

abbrev pub invariant-loop-g : goal.invariant-loop-g
invariant-loop-g l = Passed (ids l.glyphs) (ids_left l.id-iterator) l.g × Rising (ids l.glyphs) (bit_in l.words 0) l.glyphs.n l.low l.g
