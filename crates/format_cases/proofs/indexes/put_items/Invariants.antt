-- The invariant: writing the items that are left gives what writing all of them gives.
use Rattle.std.proofs.Common.{length, ◌*◌, ◌+◌, ◌-◌, ◌≡◌}
use Rattle.cases.specs.Adding.{Adding}
use Rattle.format_cases.specs.Indexes.{items_bytes}
use Rattle.format_cases.proofs.indexes.put_items.Given as goal

abbrev pub invariant-loop-k : goal.invariant-loop-k
invariant-loop-k l = (length l.to ≡ length l.initial.to + 6 * l.k) × Adding l.initial.to (items_bytes l.items.bytes.now l.items.ix 0 l.items.ix.count) l.to (items_bytes l.items.bytes.now l.items.ix l.k (l.items.ix.count - l.k))
