-- `interpret::run_body` and `enter` meet their contracts: the rows noted so far and what is left to run are the whole run; a call's
-- row and its subroutine's are the call's.
use Rattle.std.proofs.Common.{ap, arith, Ok, ◌∙◌}
use Rattle.interpret.specs.StandingLaws.{number_small, stand_start, stand_off, stand_breaks, stand_returns, stand_ends, stand_further, stand_goes, mask-short, mask-room, stand_masks, call_asks, stand_broken, stand_ended, stand_returned, body-fits, entered_ran, too_deep}
use Rattle.interpret.proofs.+enter_run_body.Goals as goal

pub enter-returns-then-depth-eq0 : goal.enter-returns-then-depth-eq0
enter-returns-then-depth-eq0 t c = too_deep _ _ _ c.args.kind c.args.number c.args.x _ _ c.if-depth-eq0.true

pub enter-overflow_cast-number : goal.enter-overflow_cast-number
enter-overflow_cast-number t c = omega (arith, number_small _ _ c.args.from.now.ready c.args.kind _ c.requires)

pub enter-run_body-requires : goal.enter-run_body-requires
enter-run_body-requires t c = (omega (arith, c.decreases, c.if-depth-eq0.false), (body-fits c.args.from.now.ready c.args.kind _ c.requires c.site_for-site.ensures c.subr-body.ensures))

pub enter-returns : goal.enter-returns
enter-returns t c = entered_ran c.args.from.now.ready c.args.kind _ c.requires c.site_for-site.ensures c.subr-body.ensures _ _ _ _ c.if-depth-eq0.false c.note_entered.ensures c.run_body.ensures

pub run_body-loop-at-init : goal.run_body-loop-at-init
run_body-loop-at-init t c = stand_start _ _ _ _ _ _ _ _ _ c.args.from.now.ready c.requires c.is_glyph-own.ensures

pub run_body-returns-in-Breaks : goal.run_body-returns-in-Breaks
run_body-returns-in-Breaks t c = stand_breaks c.loop-at.invariant c.loop-at-test.true c.turn_at.ensures c.in-Breaks.is

pub run_body-returns-in-Returns : goal.run_body-returns-in-Returns
run_body-returns-in-Returns t c = stand_returns c.loop-at.invariant c.loop-at-test.true c.turn_at.ensures _ c.in-Returns.is

pub run_body-returns-in-Ends : goal.run_body-returns-in-Ends
run_body-returns-in-Ends t c = stand_ends c.loop-at.invariant c.loop-at-test.true c.turn_at.ensures c.in-Ends.is

pub run_body-loop-at-smaller-in-Goes : goal.run_body-loop-at-smaller-in-Goes
run_body-loop-at-smaller-in-Goes t c =
    let k = stand_further c.loop-at.invariant c.loop-at-test.true c.turn_at.ensures _ _ _ c.in-Goes.is in
    omega (arith, k, c.loop-at-test.true)

pub run_body-loop-at-preserved-in-Goes : goal.run_body-loop-at-preserved-in-Goes
run_body-loop-at-preserved-in-Goes t c = stand_goes c.loop-at.invariant c.loop-at-test.true c.turn_at.ensures _ _ _ c.in-Goes.is

pub run_body-overflow_cast-len : goal.run_body-overflow_cast-len
run_body-overflow_cast-len t c = omega (arith, mask-short c.loop-at.invariant c.loop-at-test.true c.turn_at.ensures _ _ c.in-Masks.is)

pub run_body-note_mask-requires : goal.run_body-note_mask-requires
run_body-note_mask-requires t c = mask-short c.loop-at.invariant c.loop-at-test.true c.turn_at.ensures _ _ c.in-Masks.is

pub run_body-overflow_add-at-in-Masks : goal.run_body-overflow_add-at-in-Masks
run_body-overflow_add-at-in-Masks t c =
    let k = mask-room c.loop-at.invariant c.loop-at-test.true c.turn_at.ensures _ _ c.in-Masks.is in
    omega (arith, k, c.loop-at.invariant.size)

pub run_body-loop-at-preserved-in-Masks : goal.run_body-loop-at-preserved-in-Masks
run_body-loop-at-preserved-in-Masks t c = stand_masks c.loop-at.invariant c.loop-at-test.true c.turn_at.ensures _ _ c.in-Masks.is c.note_mask.ensures

pub run_body-enter-requires : goal.run_body-enter-requires
run_body-enter-requires t c = (omega (arith, c.decreases), call_asks c.loop-at.invariant c.loop-at-test.true c.turn_at.ensures _ _ _ c.in-Calls.is)

pub run_body-returns-in_err-enter-in-Calls : goal.run_body-returns-in_err-enter-in-Calls
run_body-returns-in_err-enter-in-Calls t c = stand_broken c.loop-at.invariant c.loop-at-test.true c.turn_at.ensures _ _ _ c.in-Calls.is c.enter.ensures _ c.in_err-enter-in-Calls.was _ c.from_residual.ensures.1

pub run_body-returns-in-Ended : goal.run_body-returns-in-Ended
run_body-returns-in-Ended t c = stand_ended c.loop-at.invariant c.loop-at-test.true c.turn_at.ensures _ _ _ c.in-Calls.is c.enter.ensures (c.in_ok-enter-in-Calls.was ∙ ap Ok c.in-Ended.is)

pub run_body-loop-at-preserved : goal.run_body-loop-at-preserved
run_body-loop-at-preserved t c = stand_returned c.loop-at.invariant c.loop-at-test.true c.turn_at.ensures _ _ _ c.in-Calls.is c.enter.ensures _ (c.in_ok-enter-in-Calls.was ∙ ap Ok c.in-Returned.is)

pub run_body-returns : goal.run_body-returns
run_body-returns t c = stand_off c.loop-at.invariant c.loop-at-test.false
