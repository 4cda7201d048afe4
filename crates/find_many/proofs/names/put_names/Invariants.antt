-- The invariant: the glyphs of the names that are left, written behind those that were, give what all give from the front on.
use Rattle.std.proofs.Common.{drop, length, map, ◌+◌, ◌≡◌, ◌≤◌}
use Rattle.octets.specs.Lists.{sum_of}
use Rattle.octets.specs.Octets.{put}
use Rattle.cff.specs.Loaded.{program}
use Rattle.find_many.specs.Many.{of_name, names_by}
use Rattle.find_many.proofs.names.put_names.Given as goal

abbrev pub invariant-loop-i : goal.invariant-loop-i
invariant-loop-i l =
    (l.at + sum_of (drop l.i l.lens) ≤ length l.names)
    × (put l.glyphs l.i (map (of_name (program l.font)) (names_by (drop l.i l.lens) (drop l.at l.names))) ≡ put l.initial.glyphs 0 (map (of_name (program l.font)) (names_by l.lens l.names)))
