-- The invariant: writing the operands that are left gives what writing all of them gives.
use Rattle.std.proofs.Common.{length, ◌*◌, ◌+◌, ◌-◌, ◌≤◌}
use Rattle.dict.specs.Places.{operands_at}
use Rattle.cases.specs.Adding.{Adding}
use Rattle.format_cases.specs.Dicts.{operands_bytes}
use Rattle.format_cases.proofs.dicts.put_operands.Given as goal

abbrev pub invariant-loop : goal.invariant-loop
invariant-loop l =
    (length l.to + 11 * (l.count - l.counter) ≤ 4096)
    × Adding l.initial.to (operands_bytes (operands_at l.count l.d l.start)) l.to (operands_bytes (operands_at (l.count - l.counter) l.d l.at))
