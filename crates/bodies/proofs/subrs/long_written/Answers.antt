-- `bodies::subrs::long_written` meets its contract: a return, or the body by the way.
use Rattle.std.proofs.Common.{sym, ◌∙◌}
use Rattle.bodies.specs.WrittenLaws.{return_len, written_sited, written-len}
use Rattle.bodies.proofs.subrs.long_written.Goals as goal

pub returns-then-is_stub : goal.returns-then-is_stub
returns-then-is_stub c = return_len c.args.one.now (sym c.is_stub.ensures ∙ c.if-is_stub.true)

pub invariant_of-long : goal.invariant_of-long
invariant_of-long c = record { sited = written_sited c.args.one.now c.body_of-measured.ensures }

pub returns : goal.returns
returns c = written-len c.args.one.now c.body_of-measured.ensures (sym c.is_stub.ensures ∙ c.if-is_stub.false) (c.long_body_len.ensures.0, c.long_body_len.ensures.1)
