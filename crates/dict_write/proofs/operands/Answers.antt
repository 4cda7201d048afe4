-- `dict_write::operands` meets its contract: the operands done were taken, and those that are left follow.
use Rattle.std.proofs.Common.{arith, ◌+◌, ◌-◌, ◌≡◌}
use Rattle.dict_write.specs.EntryLaws.{no_operand, operands_append, one_operand, none_left, none_refused, none_number, operand_first}
use Rattle.dict_write.specs.Sinks.{walking_start, walking_end, walking_room, walking_turn}
use Rattle.dict.proofs.LookupLaws.{operands_out}
use Rattle.dict_write.proofs.operands.Goals as goal

pub loop-init : goal.loop-init
loop-init g c = let e : c.args.count - 0 ≡ c.args.count = omega arith in rw e (walking_start _ _ g.met.S.Sink.follows _ _ _ no_operand)

pub returns-then-d-at : goal.returns-then-d-at
returns-then-d-at g c = walking_end _ _ g.met.S.Sink.follows _ _ _ _ _ c.loop.invariant (operands_out _ _ _ c.if-d-at.true)

pub number-requires : goal.number-requires
number-requires g c = walking_room _ _ g.met.S.Sink.follows _ _ _ _ _ c.loop.invariant operands_append _ _ (operand_first _ _ _ _ c.number_at.ensures c.in-Ok-Some.number (cc) (omega (arith, c.loop-test.true))) _ (one_operand _) c.requires

pub loop-preserved : goal.loop-preserved
loop-preserved g c = let e : c.args.count - (c.loop.counter + 1) ≡ c.args.count - c.loop.counter - 1 = omega arith in rw e (walking_turn _ _ g.met.S.Sink.follows _ _ _ _ _ c.loop.invariant operands_append _ _ (operand_first _ _ _ _ c.number_at.ensures c.in-Ok-Some.number (cc) (omega (arith, c.loop-test.true))) _ (one_operand _) c.requires _ c.number.ensures)

pub returns-in-Ok-None : goal.returns-in-Ok-None
returns-in-Ok-None g c = walking_end _ _ g.met.S.Sink.follows _ _ _ _ _ c.loop.invariant (none_number _ _ _ _ c.number_at.ensures (cc))

pub returns-in-Err : goal.returns-in-Err
returns-in-Err g c = walking_end _ _ g.met.S.Sink.follows _ _ _ _ _ c.loop.invariant (none_refused _ _ _ _ c.number_at.ensures _ c.in-Err.is)

pub returns : goal.returns
returns g c = walking_end _ _ g.met.S.Sink.follows _ _ _ _ _ c.loop.invariant (none_left _ _ _ (omega (arith, c.loop-test.false)))
