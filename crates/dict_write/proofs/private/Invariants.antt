use Rattle.dict.specs.Op.{subrs}
use Rattle.dict.specs.Places.{entries_of}
use Rattle.dict.specs.Ahead.{entries_left}
use Rattle.dict.proofs.EntriesLaws.{Left}
use Rattle.dict_write.specs.Written.{entries_bytes, without}
use Rattle.dict_write.specs.Sinks.{Walking}
use Rattle.dict_write.specs.PrivateLaws.{copied_from}
use Rattle.dict_write.proofs.private.Given as goal

abbrev pub invariant-loop-read : goal.invariant-loop-read
invariant-loop-read g l =
    Left l.d (entries_left l.read-iterator) (λ at. Walking g.S.Sink.takes entries_bytes (without subrs (entries_of l.d)) l.initial.to (copied_from l.d at) l.to)
