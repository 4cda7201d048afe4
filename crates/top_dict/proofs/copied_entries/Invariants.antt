use Rattle.dict.specs.Op.{copied_top_entries}
use Rattle.dict.specs.Held.{entries}
use Rattle.subset.specs.Subset.{copied_bytes}
use Rattle.top_dict.specs.Sent.{Sent}
use Rattle.top_dict.specs.TopLaws.{copied_from}
use Rattle.top_dict.proofs.copied_entries.Given as goal

abbrev pub invariant-loop-k : goal.invariant-loop-k
invariant-loop-k g l = Sent g.S.Sink.takes (copied_bytes (entries l.d) copied_top_entries) l.initial.to (copied_from (entries l.d) l.k) l.to
