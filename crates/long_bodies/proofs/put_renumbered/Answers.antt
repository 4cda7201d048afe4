-- `long_bodies::put_renumbered` meets its contract: the tokens written, one by one or a run at once, stand in the output, and the part has the offset
-- of a mask; a body that fails is excluded.
use Rattle.std.proofs.Common.{arith, refl, sym, ◌-◌, ◌∙◌}
use Rattle.charstring.specs.Token.{token_at}
use Rattle.charstring.specs.TokenLaws.{measurable}
use Rattle.charstring.specs.TokensLaws.{Next}
use Rattle.mask_rows.specs.SameRoom.{room_stays, room_then}
use Rattle.renumber.specs.Bodies.{given_of}
use Rattle.renumber.specs.Walks.{walk_next, puts_start, puts_end-room, puts_end, puts_run-room, puts_run, puts_turn-room, puts_turn, puts_failed}
use Rattle.long_bodies.specs.WalkLaws.{one_each}
use Rattle.long_bodies.proofs.put_renumbered.Goals as goal
use Rattle.long_bodies.proofs.put_renumbered.Goals.{In-Some}

-- the token, and where it leads
next : (c : In-Some) → Next c.args.one.now.body.now.code.now c.loop-body.c (token_at c.args.one.now.body.now.code.now (given_of c.args.one.now.body.now (c.loop-body.c.at - 1)) c.loop-body.c) c.in-Some.turned.token c.in-Some.turned.next
next c = walk_next c.args.one.now.body.now c.loop-body.invariant.0.turning (sym c.more.ensures ∙ c.loop-body-test.true) c.turn_in.ensures c.in-Some.is

pub loop-body-init : goal.loop-body-init
loop-body-init c = (puts_start c.args.one.now.body.now c.start-c.ensures, tt, refl, refl, room_stays _)

pub invariant_of-of : goal.invariant_of-of
invariant_of-of c = record { sited = c.args.one.now.sited }

pub advance-next-requires : goal.advance-next-requires
advance-next-requires c = (
  omega (arith, c.saturating_sub-offset.ensures, c.loop-body.invariant.0.turning.walk.within.inside, c.args.one.now.body.now.inputs.size),
  one_each _ _ _ _ c.requires.0,
  c.loop-body.invariant.1,
)

pub turn_in-requires : goal.turn_in-requires
turn_in-requires c = (
  c.loop-body.invariant.0.turning.walk.within,
  sym c.more.ensures ∙ c.loop-body-test.true,
  c.advance-next.ensures.0,
  omega (arith, c.saturating_sub-offset.ensures, c.advance-next.ensures.1),
  omega (arith, c.saturating_sub-offset.ensures, c.advance-next.ensures.2),
)

pub put_run-requires : goal.put_run-requires
put_run-requires c = (
  c.run_at-run.ensures.starts,
  omega (arith, c.run_at-run.ensures.ends, c.run_at-run.ensures.inside),
  puts_run-room c.args.one.now.body.now c.requires.0 c.requires.1 c.loop-body.invariant.0 c.run_at-run.ensures c.if-c-run.true,
)

pub loop-body-preserved-then-c-run : goal.loop-body-preserved-then-c-run
loop-body-preserved-then-c-run c =
    (puts_run c.args.one.now.body.now c.requires.0 c.requires.1 c.loop-body.invariant.0 c.run_at-run.ensures c.if-c-run.true c.put_run.ensures.wrote c.number_before-h.ensures, c.loop-body.invariant.1, c.put_run.ensures.same ∙ c.loop-body.invariant.2, c.put_run.ensures.size ∙ c.loop-body.invariant.3, c.loop-body.invariant.4)

pub put_sent-requires : goal.put_sent-requires
put_sent-requires c = (
  (next (goal.at.put_sent-requires c).In-Some).writable,
  puts_turn-room c.args.one.now.body.now c.requires.0 c.requires.1 c.loop-body.invariant.0 (sym c.more.ensures ∙ c.loop-body-test.true) c.turn_in.ensures c.in-Some.is,
)

pub held_after-h-requires : goal.held_after-h-requires
held_after-h-requires c = measurable _ _ (next (goal.at.held_after-h-requires c).In-Some).writable

pub loop-body-smaller : goal.loop-body-smaller
loop-body-smaller c = (next (goal.at.loop-body-smaller c).In-Some).moves.shorter

pub loop-body-preserved : goal.loop-body-preserved
loop-body-preserved c =
    (puts_turn c.args.one.now.body.now c.requires.0 c.requires.1 c.loop-body.invariant.0 (sym c.more.ensures ∙ c.loop-body-test.true) c.turn_in.ensures c.in-Some.is c.put_sent.ensures.wrote c.held_after-h.ensures, c.advance-next.ensures.0, c.put_sent.ensures.same ∙ c.loop-body.invariant.2, c.put_sent.ensures.size ∙ c.loop-body.invariant.3, room_then c.loop-body.invariant.4 c.advance-next.ensures.4)

pub returns-in-None : goal.returns-in-None
returns-in-None c = absurd (puts_failed c.args.one.now.body.now c.requires.0 c.requires.1 c.loop-body.invariant.0 (sym c.more.ensures ∙ c.loop-body-test.true) c.turn_in.ensures c.in-None.is)

pub put_held-requires : goal.put_held-requires
put_held-requires c = puts_end-room c.args.one.now.body.now c.requires.0 c.requires.1 c.loop-body.invariant.0 (sym c.more.ensures ∙ c.loop-body-test.false)

pub returns : goal.returns
returns c = (
  record {
    wrote = puts_end c.args.one.now.body.now c.requires.0 c.requires.1 c.loop-body.invariant.0 (sym c.more.ensures ∙ c.loop-body-test.false) c.put_held.ensures.wrote;
    same = c.put_held.ensures.same ∙ c.loop-body.invariant.2;
    size = c.put_held.ensures.size ∙ c.loop-body.invariant.3;
  },
  c.loop-body.invariant.4,
)
