-- The invariant: what the ranges that are left give is what all give.
use Rattle.std.proofs.Common.{drop, length, ◌*◌, ◌+◌, ◌-◌, ◌≡◌, ◌≤◌}
use Rattle.charset.specs.FdSelect.{ranges_refusal}
use Rattle.charset.specs.FdPlaces.{ranges_answer}
use Rattle.charset.proofs.fd_select.check_ends.Given as goal

abbrev pub invariant-loop-i : goal.invariant-loop-i
invariant-loop-i l =
    (l.s.at + 3 * l.i ≤ length l.font)
    × (ranges_answer l.s (ranges_refusal 2 (l.s.count - l.i) l.first (drop (l.s.at + 3 * l.i) l.font)) ≡ ranges_answer l.s (ranges_refusal 2 l.s.count l.s.first (drop l.s.at l.font)))
