-- The invariant: the ids of the glyphs that were passed are marked, and they are in front.
use Rattle.std.proofs.Common.{ℕ, take, ◌≤◌}
use Rattle.bits.specs.Bits.{bit_in}
use Rattle.charset.specs.Ahead.{Passed}
use Rattle.charset.specs.Ids.{ids}
use Rattle.charset.specs.Iter.{ids_left}
use Rattle.first_glyphs.specs.Lead.{HasIds}
use Rattle.first_glyphs.specs.FoundLaws.{Seen}
use Rattle.first_glyphs.proofs.put_ids.Given as goal

abbrev pub invariant-loop-id : goal.invariant-loop-id
invariant-loop-id l =
    (g : ℕ) × Passed (ids l.glyphs) (ids_left l.id-iterator) g × Seen (ids l.glyphs) g (bit_in l.seen 0)
    × (l.k ≤ g) × HasIds (ids l.glyphs) g (take l.k l.out)
