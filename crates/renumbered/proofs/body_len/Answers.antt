-- `renumbered::body_len` meets its contract: the length so far is that of the tokens written, one by one or a run at once.
use Rattle.std.proofs.Common.{arith, refl, sym, ◌-◌, ◌∙◌}
use Rattle.charstring.specs.Token.{token_at}
use Rattle.charstring.specs.TokenLaws.{measurable}
use Rattle.charstring.specs.TokensLaws.{Next}
use Rattle.renumber.specs.Bodies.{given_of}
use Rattle.renumber.specs.BodyLaws.{own-small}
use Rattle.renumber.specs.Walks.{walk_next, size_start, size_small, size_room, size_end, size_run, size_turn, size_failed}
use Rattle.renumbered.proofs.body_len.Goals as goal
use Rattle.renumbered.proofs.body_len.Goals.{In-Some}

-- the token, and where it leads
next : (c : In-Some) → Next c.args.body.now.code.now c.loop-code.c (token_at c.args.body.now.code.now (given_of c.args.body.now (c.loop-code.c.at - 1)) c.loop-code.c) c.in-Some.turned.token c.in-Some.turned.next
next c = walk_next c.args.body.now c.loop-code.invariant.turning (sym c.more.ensures ∙ c.loop-code-test.true) c.turn_at.ensures c.in-Some.is

pub loop-code-init : goal.loop-code-init
loop-code-init c = size_start c.args.body.now c.start-c.ensures

pub overflow_add-len : goal.overflow_add-len
overflow_add-len c = omega (arith, size_small c.args.body.now (size_run c.args.body.now c.loop-code.invariant c.run_at-run.ensures c.if-c-run.true c.run_len-len.ensures refl))

pub loop-code-preserved-then-c-run : goal.loop-code-preserved-then-c-run
loop-code-preserved-then-c-run c = size_run c.args.body.now c.loop-code.invariant c.run_at-run.ensures c.if-c-run.true c.run_len-len.ensures c.number_before-h.ensures

pub sent_len-len-requires : goal.sent_len-len-requires
sent_len-len-requires c = own-small _ _ (next (goal.at.sent_len-len-requires c).In-Some).writable c.args.body.now.inputs.size

pub overflow_add-len-in-Some : goal.overflow_add-len-in-Some
overflow_add-len-in-Some c =
    omega (arith, size_small c.args.body.now (size_turn c.args.body.now c.loop-code.invariant (sym c.more.ensures ∙ c.loop-code-test.true) c.turn_at.ensures c.in-Some.is c.sent_len-len.ensures refl))

pub held_after-h-requires : goal.held_after-h-requires
held_after-h-requires c = measurable _ _ (next (goal.at.held_after-h-requires c).In-Some).writable

pub loop-code-smaller : goal.loop-code-smaller
loop-code-smaller c = (next (goal.at.loop-code-smaller c).In-Some).moves.shorter

pub loop-code-preserved : goal.loop-code-preserved
loop-code-preserved c =
    size_turn c.args.body.now c.loop-code.invariant (sym c.more.ensures ∙ c.loop-code-test.true) c.turn_at.ensures c.in-Some.is c.sent_len-len.ensures c.held_after-h.ensures

pub returns-in-None : goal.returns-in-None
returns-in-None c = size_failed c.args.body.now c.loop-code.invariant (sym c.more.ensures ∙ c.loop-code-test.true) c.turn_at.ensures c.in-None.is

pub overflow_add-result : goal.overflow_add-result
overflow_add-result c = omega (arith, c.held_len.ensures, size_room c.args.body.now c.loop-code.invariant)

pub returns : goal.returns
returns c = size_end c.args.body.now c.loop-code.invariant (sym c.more.ensures ∙ c.loop-code-test.false) c.held_len.ensures
