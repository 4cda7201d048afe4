-- The invariant: the keys of the glyphs that were passed are marked, and the glyphs that are left are the first of their keys exactly where all are.
use Rattle.std.proofs.Common.{ℕ, ◌-◌, ◌≡◌}
use Rattle.bits.specs.Bits.{bit_in}
use Rattle.charset.specs.Ahead.{Passed}
use Rattle.charset.specs.Ids.{ids}
use Rattle.charset.specs.Iter.{ids_left}
use Rattle.subset.specs.Kept.{those}
use Rattle.subset.specs.Pruned.{mapped}
use Rattle.kept.specs.Packed.{all_of, cid_found}
use Rattle.first_glyphs.specs.FoundLaws.{Seen}
use Rattle.first_glyphs.specs.Lead.{Gives}
use Rattle.first_glyphs.proofs.keys_found.Given as goal

abbrev pub invariant-loop-g : goal.invariant-loop-g
invariant-loop-g t l =
    Passed (ids l.flagged.glyphs) (ids_left l.id-iterator) l.g
    × ((key_of : ℕ → ℕ) → Gives (goal.F-post t l.key) key_of
    → Seen (mapped key_of (ids l.flagged.glyphs)) l.g (bit_in l.seen 0)
    × (all_of (cid_found (mapped key_of (ids l.flagged.glyphs))) (those (bit_in l.flagged.flags.now 0) (l.flagged.glyphs.n - l.g) l.g) ≡ all_of (cid_found (mapped key_of (ids l.flagged.glyphs))) (those (bit_in l.flagged.flags.now 0) l.flagged.glyphs.n 0)))
