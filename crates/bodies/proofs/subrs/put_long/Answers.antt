-- `bodies::subrs::put_long` meets its contract: a return, or the body by the way.
use Rattle.std.proofs.Common.{sym, ◌∙◌}
use Rattle.bodies.specs.WrittenLaws.{return_room, return_writes, written_sited, written_room, written_writes}
use Rattle.bodies.proofs.subrs.put_long.Goals as goal

pub num-requires : goal.num-requires
num-requires c = return_room c.args.one.now (sym c.is_stub.ensures ∙ c.if-is_stub.true) _ _ c.requires.1

pub returns-then-is_stub : goal.returns-then-is_stub
returns-then-is_stub c = return_writes c.args.one.now (sym c.is_stub.ensures ∙ c.if-is_stub.true) c.num.ensures

pub invariant_of-long : goal.invariant_of-long
invariant_of-long c = record { sited = written_sited c.args.one.now c.body_of-written.ensures }

pub put_long_body-requires : goal.put_long_body-requires
put_long_body-requires c = written_room c.args.one.now c.body_of-written.ensures (sym c.is_stub.ensures ∙ c.if-is_stub.false) _ _ c.requires.0 c.requires.1

pub returns : goal.returns
returns c = written_writes c.args.one.now c.body_of-written.ensures (sym c.is_stub.ensures ∙ c.if-is_stub.false) c.put_long_body.ensures.0
