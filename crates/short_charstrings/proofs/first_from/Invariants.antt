-- The invariant: from here on the first is the one from k on.
use Rattle.std.proofs.Common.{length, ◌-◌, ◌≡◌}
use Rattle.short_charstrings.specs.Next.{candidates, first_from_lem}
use Rattle.short_charstrings.proofs.first_from.Given as goal

abbrev pub invariant-loop-at : goal.invariant-loop-at
invariant-loop-at l = (length l.code ≡ 4) × (first_from_lem (candidates - l.at) l.at ≡ first_from_lem (candidates - l.k) l.k)
