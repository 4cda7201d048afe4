-- The invariant: the names and the ids of the glyphs that were passed are marked, and the glyphs that are left are found exactly where all are. An open answer says nothing.
use Rattle.std.proofs.Common.{take, ◌-◌, ◌<◌, ◌≡◌}
use Rattle.bits.specs.Bits.{bit_in}
use Rattle.index.specs.Items.{items}
use Rattle.charset.specs.Ahead.{Passed}
use Rattle.charset.specs.Ids.{ids}
use Rattle.charset.specs.Iter.{ids_left}
use Rattle.subset.specs.Kept.{those}
use Rattle.kept.specs.Packed.{all_of, name_found}
use Rattle.first_glyphs.specs.FoundLaws.{Seen}
use Rattle.found.specs.Hash.{MetNames}
use Rattle.found.proofs.names_met.Given as goal

abbrev pub invariant-loop-g : goal.invariant-loop-g
invariant-loop-g l =
    Passed (take l.end (ids l.flagged.glyphs)) (ids_left l.sid-iterator) l.g × MetNames (items l.strings) (ids l.flagged.glyphs) l.g (bit_in l.marks 0) × Seen (ids l.flagged.glyphs) l.g (bit_in l.seen 0) × (0 < l.looks)
    × (all_of (name_found (items l.strings) (ids l.flagged.glyphs)) (those (bit_in l.flagged.flags.now 0) (l.flagged.glyphs.n - l.g) l.g)
    ≡ all_of (name_found (items l.strings) (ids l.flagged.glyphs)) (those (bit_in l.flagged.flags.now 0) l.flagged.glyphs.n 0))
