-- The invariant: writing the ids that are left gives what writing all gives.
use Rattle.std.proofs.Common.{length, ◌*◌, ◌+◌, ◌≤◌}
use Rattle.index.specs.Write.{table_bytes}
use Rattle.charset.specs.Ids.{ids}
use Rattle.charset.specs.Iter.{ids_left}
use Rattle.cases.specs.Adding.{Adding}
use Rattle.format_cases.proofs.glyphs.put_ids.Given as goal

abbrev pub invariant-loop-id : goal.invariant-loop-id
invariant-loop-id l =
    (length l.to + 2 * length (ids_left l.id-iterator) ≤ 4096)
    × Adding l.initial.to (table_bytes 2 (ids l.glyphs)) l.to (table_bytes 2 (ids_left l.id-iterator))
