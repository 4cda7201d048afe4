-- The invariant: what the slots of the CIDs that are left have, written behind what was, gives what all give from the front on.
use Rattle.std.proofs.Common.{drop, map, ℕ, ◌≡◌}
use Rattle.octets.specs.Octets.{put}
use Rattle.find_many.specs.Many.{Slots}
use Rattle.find_many.proofs.cids.put_cids.Given as goal

abbrev pub invariant-loop-i : goal.invariant-loop-i
invariant-loop-i l = (number : ℕ → ℕ) → Slots number l.slots → put l.glyphs l.i (map number (drop l.i l.cids)) ≡ put l.initial.glyphs 0 (map number l.cids)
