use Rattle.std.proofs.Common.{◌≡◌}
use Rattle.index.specs.Index.{items_of}
use Rattle.cff.specs.ReadsLaws.{Adding}
use Rattle.cff.proofs.private.read_privates.Given as goal

abbrev pub invariant-loop-k : goal.invariant-loop-k
invariant-loop-k l = Adding l.font (items_of l.font l.dicts) l.total l.k × (l.seen.font.now ≡ l.font)
