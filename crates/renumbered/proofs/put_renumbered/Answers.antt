-- `renumbered::put_renumbered` meets its contract: the tokens written, one by one or a run at once, stand in the output; a body that fails is excluded.
use Rattle.std.proofs.Common.{arith, refl, sym, ◌-◌, ◌∙◌}
use Rattle.charstring.specs.Token.{token_at}
use Rattle.charstring.specs.TokenLaws.{measurable}
use Rattle.charstring.specs.TokensLaws.{Next}
use Rattle.renumber.specs.Bodies.{given_of}
use Rattle.renumber.specs.Walks.{walk_next, puts_start, puts_end-room, puts_end, puts_run-room, puts_run, puts_turn-room, puts_turn, puts_failed}
use Rattle.renumbered.proofs.put_renumbered.Goals as goal
use Rattle.renumbered.proofs.put_renumbered.Goals.{In-Some}

-- the token, and where it leads
next : (c : In-Some) → Next c.args.body.now.code.now c.loop-code.c (token_at c.args.body.now.code.now (given_of c.args.body.now (c.loop-code.c.at - 1)) c.loop-code.c) c.in-Some.turned.token c.in-Some.turned.next
next c = walk_next c.args.body.now c.loop-code.invariant.0.turning (sym c.more.ensures ∙ c.loop-code-test.true) c.turn_at.ensures c.in-Some.is

pub loop-code-init : goal.loop-code-init
loop-code-init c = (puts_start c.args.body.now c.start-c.ensures, refl, refl)

pub put_run-requires : goal.put_run-requires
put_run-requires c = (
  c.run_at-run.ensures.starts,
  omega (arith, c.run_at-run.ensures.ends, c.run_at-run.ensures.inside),
  puts_run-room c.args.body.now c.requires.0 c.requires.1 c.loop-code.invariant.0 c.run_at-run.ensures c.if-c-run.true,
)

pub loop-code-preserved-then-c-run : goal.loop-code-preserved-then-c-run
loop-code-preserved-then-c-run c =
    (puts_run c.args.body.now c.requires.0 c.requires.1 c.loop-code.invariant.0 c.run_at-run.ensures c.if-c-run.true c.put_run.ensures.wrote c.number_before-h.ensures, c.put_run.ensures.same ∙ c.loop-code.invariant.1, c.put_run.ensures.size ∙ c.loop-code.invariant.2)

pub put_sent-requires : goal.put_sent-requires
put_sent-requires c = (
  (next (goal.at.put_sent-requires c).In-Some).writable,
  puts_turn-room c.args.body.now c.requires.0 c.requires.1 c.loop-code.invariant.0 (sym c.more.ensures ∙ c.loop-code-test.true) c.turn_at.ensures c.in-Some.is,
)

pub held_after-h-requires : goal.held_after-h-requires
held_after-h-requires c = measurable _ _ (next (goal.at.held_after-h-requires c).In-Some).writable

pub loop-code-smaller : goal.loop-code-smaller
loop-code-smaller c = (next (goal.at.loop-code-smaller c).In-Some).moves.shorter

pub loop-code-preserved : goal.loop-code-preserved
loop-code-preserved c =
    (puts_turn c.args.body.now c.requires.0 c.requires.1 c.loop-code.invariant.0 (sym c.more.ensures ∙ c.loop-code-test.true) c.turn_at.ensures c.in-Some.is c.put_sent.ensures.wrote c.held_after-h.ensures, c.put_sent.ensures.same ∙ c.loop-code.invariant.1, c.put_sent.ensures.size ∙ c.loop-code.invariant.2)

pub returns-in-None : goal.returns-in-None
returns-in-None c = absurd (puts_failed c.args.body.now c.requires.0 c.requires.1 c.loop-code.invariant.0 (sym c.more.ensures ∙ c.loop-code-test.true) c.turn_at.ensures c.in-None.is)

pub put_held-requires : goal.put_held-requires
put_held-requires c = puts_end-room c.args.body.now c.requires.0 c.requires.1 c.loop-code.invariant.0 (sym c.more.ensures ∙ c.loop-code-test.false)

pub returns : goal.returns
returns c = record {
  wrote = puts_end c.args.body.now c.requires.0 c.requires.1 c.loop-code.invariant.0 (sym c.more.ensures ∙ c.loop-code-test.false) c.put_held.ensures.wrote;
  same = c.put_held.ensures.same ∙ c.loop-code.invariant.1;
  size = c.put_held.ensures.size ∙ c.loop-code.invariant.2;
}
