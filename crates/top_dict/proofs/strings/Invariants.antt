use Rattle.top_dict.specs.Sent.{Sent}
use Rattle.top_dict.specs.TopLaws.{strings_from}
use Rattle.top_dict.specs.Top.{string_entries}
use Rattle.top_dict.proofs.strings.Given as goal

abbrev pub invariant-loop-k : goal.invariant-loop-k
invariant-loop-k g l = Sent g.S.Sink.takes (string_entries l.slots) l.initial.to (strings_from l.slots l.k) l.to
