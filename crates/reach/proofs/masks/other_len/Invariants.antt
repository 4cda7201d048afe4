-- The invariant: the rows that are left give what all give.
use Rattle.std.proofs.Common.{◌≡◌}
use Rattle.reach.specs.Reach.{rest_of}
use Rattle.reach.specs.Masks.{other_len_lem}
use Rattle.reach.proofs.masks.other_len.Given as goal

abbrev pub invariant-loop-i : goal.invariant-loop-i
invariant-loop-i l =
    other_len_lem l.key l.len (rest_of l.rows l.i) ≡ other_len_lem l.key l.len (rest_of l.rows l.from)
