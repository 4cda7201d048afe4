use Rattle.std.proofs.Common.{◌-◌}
use Rattle.dict.specs.Places.{operands_at}
use Rattle.dict_write.specs.Written.{operands_bytes}
use Rattle.dict_write.specs.Sinks.{Walking}
use Rattle.dict_write.proofs.operands.Given as goal

abbrev pub invariant-loop : goal.invariant-loop
invariant-loop g l = Walking g.S.Sink.takes operands_bytes (operands_at l.count l.d l.start) l.initial.to (operands_at (l.count - l.counter) l.d l.at) l.to
