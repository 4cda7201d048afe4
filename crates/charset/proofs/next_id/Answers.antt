-- `charset::next_id` meets its contract: the one test of `next_id`, and the bytes are there by `ReadyId`.
use Rattle.std.proofs.Common.{arith}
use Rattle.charset.specs.IdCursorLaws.{step-met, step-on}
use Rattle.charset.proofs.next_id.Goals as goal

pub returns-then-left-eq0 : goal.returns-then-left-eq0
returns-then-left-eq0 c = (step-met _ _ _ _ c.if-left-eq0.true c.u16_at-first.ensures.0 c.num_at-more.ensures.0, c.u16_at-first.ensures.1)

pub returns : goal.returns
returns c = (step-on _ _ c.if-left-eq0.false, c.requires.small (omega arith))
