-- The invariant: what the ranges that are left give for the glyphs that are left is what all give.
use Rattle.std.proofs.Common.{drop, length, ◌≡◌, ◌≤◌}
use Rattle.charset.specs.Charset.{ids_from}
use Rattle.charset.specs.CharsetPlaces.{charset_answer}
use Rattle.charset.proofs.check_ranges.Given as goal

abbrev pub invariant-loop-k : goal.invariant-loop-k
invariant-loop-k l =
    (l.len ≡ length l.font) × (l.width ≡ l.c.width) × (l.q ≤ length l.font) × (l.k ≤ l.count)
    × (charset_answer l.c (ids_from l.width l.k 0 0 (drop l.q l.font)) ≡ charset_answer l.c (ids_from l.width l.count 0 0 (drop l.c.at l.font)))

abbrev pub decreases-loop-k : goal.decreases-loop-k
decreases-loop-k l = l.k
