-- `iter::Iter::next` meets its contract: where a glyph is left the cursor gives the first of the ids, and stands behind it.
use Rattle.std.proofs.Common.{arith}
use Rattle.charset.specs.AheadLaws.{ahead_none, ahead_ready, ahead-next, ahead-more}
use Rattle.charset.proofs.iter.IterIterator.next.Goals as goal

pub returns-then-self-eq0-clause-steps : goal.returns-then-self-eq0-clause-steps
returns-then-self-eq0-clause-steps c = let none = ahead_none _ _ _ c.if-self-eq0.true in (none, none)

pub next_id-step-requires : goal.next_id-step-requires
next_id-step-requires c = ahead_ready _ _ _ c.args.self.now.stands (omega arith)

pub invariant_of-self : goal.invariant_of-self
invariant_of-self c = record { stands = ahead-next _ _ _ c.args.self.now.stands (omega arith) _ c.next_id-step.ensures.0 }

pub returns-clause-steps : goal.returns-clause-steps
returns-clause-steps c = ahead-more _ _ _ c.args.self.now.stands (omega arith) _ c.next_id-step.ensures.0
