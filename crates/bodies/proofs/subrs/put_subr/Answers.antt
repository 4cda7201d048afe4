-- `bodies::subrs::put_subr` meets its contract: a return, or the body by the way.
use Rattle.std.proofs.Common.{sym, ◌∙◌}
use Rattle.bodies.specs.WrittenLaws.{return_room, return_writes, written_room, written_writes}
use Rattle.bodies.proofs.subrs.put_subr.Goals as goal

pub num-requires : goal.num-requires
num-requires c = return_room c.args.one.now (sym c.is_stub.ensures ∙ c.if-is_stub.true) _ _ c.requires.1

pub returns-then-is_stub : goal.returns-then-is_stub
returns-then-is_stub c = return_writes c.args.one.now (sym c.is_stub.ensures ∙ c.if-is_stub.true) c.num.ensures

pub put_body-requires : goal.put_body-requires
put_body-requires c = written_room c.args.one.now c.body_of-body.ensures (sym c.is_stub.ensures ∙ c.if-is_stub.false) _ _ c.requires.0 c.requires.1

pub returns : goal.returns
returns c = written_writes c.args.one.now c.body_of-body.ensures (sym c.is_stub.ensures ∙ c.if-is_stub.false) c.put_body.ensures
