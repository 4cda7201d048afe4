-- `long_bodies::body_len` meets its contract: the length so far is that of the tokens written, one by one or a run at once, and the part has the offset of a mask.
use Rattle.std.proofs.Common.{arith, refl, sym, ◌-◌, ◌∙◌}
use Rattle.charstring.specs.Token.{token_at}
use Rattle.charstring.specs.TokenLaws.{measurable}
use Rattle.charstring.specs.TokensLaws.{Next}
use Rattle.mask_rows.specs.SameRoom.{room_stays, room_then}
use Rattle.renumber.specs.Bodies.{given_of}
use Rattle.renumber.specs.BodyLaws.{own-small}
use Rattle.renumber.specs.Walks.{walk_next, size_start, size_small, size_room, size_end, size_run, size_turn, size_failed}
use Rattle.long_bodies.proofs.body_len.Goals as goal
use Rattle.long_bodies.proofs.body_len.Goals.{In-Some}

-- the token, and where it leads
next : (c : In-Some) → Next c.args.one.now.body.now.code.now c.loop-body.c (token_at c.args.one.now.body.now.code.now (given_of c.args.one.now.body.now (c.loop-body.c.at - 1)) c.loop-body.c) c.in-Some.turned.token c.in-Some.turned.next
next c = walk_next c.args.one.now.body.now c.loop-body.invariant.0.turning (sym c.more.ensures ∙ c.loop-body-test.true) c.turn_in.ensures c.in-Some.is

pub loop-body-init : goal.loop-body-init
loop-body-init c = (size_start c.args.one.now.body.now c.start-c.ensures, tt, room_stays _)

pub invariant_of-of : goal.invariant_of-of
invariant_of-of c = record { sited = c.args.one.now.sited }

pub advance-next-requires : goal.advance-next-requires
advance-next-requires c = (
  omega (arith, c.saturating_sub-offset.ensures, c.loop-body.invariant.0.turning.walk.within.inside, c.args.one.now.body.now.inputs.size),
  c.requires,
  c.loop-body.invariant.1,
)

pub turn_in-requires : goal.turn_in-requires
turn_in-requires c = (
  c.loop-body.invariant.0.turning.walk.within,
  sym c.more.ensures ∙ c.loop-body-test.true,
  c.advance-next.ensures.0,
  omega (arith, c.saturating_sub-offset.ensures, c.advance-next.ensures.1),
  omega (arith, c.saturating_sub-offset.ensures, c.advance-next.ensures.2),
)

pub overflow_add-len : goal.overflow_add-len
overflow_add-len c = omega (arith, size_small c.args.one.now.body.now (size_run c.args.one.now.body.now c.loop-body.invariant.0 c.run_at-run.ensures c.if-c-run.true c.run_len-len.ensures refl))

pub loop-body-preserved-then-c-run : goal.loop-body-preserved-then-c-run
loop-body-preserved-then-c-run c =
    (size_run c.args.one.now.body.now c.loop-body.invariant.0 c.run_at-run.ensures c.if-c-run.true c.run_len-len.ensures c.number_before-h.ensures, c.loop-body.invariant.1, c.loop-body.invariant.2)

pub sent_len-len-requires : goal.sent_len-len-requires
sent_len-len-requires c = own-small _ _ (next (goal.at.sent_len-len-requires c).In-Some).writable c.args.one.now.body.now.inputs.size

pub overflow_add-len-in-Some : goal.overflow_add-len-in-Some
overflow_add-len-in-Some c =
    omega (arith, size_small c.args.one.now.body.now (size_turn c.args.one.now.body.now c.loop-body.invariant.0 (sym c.more.ensures ∙ c.loop-body-test.true) c.turn_in.ensures c.in-Some.is c.sent_len-len.ensures refl))

pub held_after-h-requires : goal.held_after-h-requires
held_after-h-requires c = measurable _ _ (next (goal.at.held_after-h-requires c).In-Some).writable

pub loop-body-smaller : goal.loop-body-smaller
loop-body-smaller c = (next (goal.at.loop-body-smaller c).In-Some).moves.shorter

pub loop-body-preserved : goal.loop-body-preserved
loop-body-preserved c =
    (size_turn c.args.one.now.body.now c.loop-body.invariant.0 (sym c.more.ensures ∙ c.loop-body-test.true) c.turn_in.ensures c.in-Some.is c.sent_len-len.ensures c.held_after-h.ensures, c.advance-next.ensures.0, room_then c.loop-body.invariant.2 c.advance-next.ensures.4)

pub returns-in-None : goal.returns-in-None
returns-in-None c = (
  size_failed c.args.one.now.body.now c.loop-body.invariant.0 (sym c.more.ensures ∙ c.loop-body-test.true) c.turn_in.ensures c.in-None.is,
  room_then c.loop-body.invariant.2 c.advance-next.ensures.4,
)

pub overflow_add-result : goal.overflow_add-result
overflow_add-result c = omega (arith, c.held_len.ensures, size_room c.args.one.now.body.now c.loop-body.invariant.0)

pub returns : goal.returns
returns c = (size_end c.args.one.now.body.now c.loop-body.invariant.0 (sym c.more.ensures ∙ c.loop-body-test.false) c.held_len.ensures, c.loop-body.invariant.2)
