-- Each call through `interpret::enter` leaves one call fewer; a body's loop is where the rows noted so far and what is left to run are the whole run.
use Rattle.std.proofs.Common.{length, ◌-◌, ◌+◌, ◌*◌}
use Rattle.interpret.specs.StandingLaws.{Standing}
use Rattle.interpret.proofs.+enter_run_body.Given as goal

abbrev pub decreases-enter : goal.decreases-enter
decreases-enter l = 2 * l.depth

abbrev pub decreases-run_body : goal.decreases-run_body
decreases-run_body l = 2 * l.depth + 1

abbrev pub invariant-run_body-loop-at : goal.invariant-run_body-loop-at
invariant-run_body-loop-at l = Standing l.from.font.now l.from.q l.depth l.site l.code l.initial.x l.range l.initial.filling l.own l.filling l.at l.prev l.x

abbrev pub decreases-run_body-loop-at : goal.decreases-run_body-loop-at
decreases-run_body-loop-at l = length l.code - l.at
