-- `bodies::subrs::written_len` meets its contract: a return, or the body by the way.
use Rattle.std.proofs.Common.{sym, ◌∙◌}
use Rattle.bodies.specs.WrittenLaws.{return_len, written-len}
use Rattle.bodies.proofs.subrs.written_len.Goals as goal

pub returns-then-is_stub : goal.returns-then-is_stub
returns-then-is_stub c = return_len c.args.one.now (sym c.is_stub.ensures ∙ c.if-is_stub.true)

pub returns : goal.returns
returns c = written-len c.args.one.now c.body_of-body.ensures (sym c.is_stub.ensures ∙ c.if-is_stub.false) c.body_len.ensures
