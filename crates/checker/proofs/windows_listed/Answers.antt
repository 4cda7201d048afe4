-- `checker::windows_listed` meets its contract.
use Rattle.std.proofs.Common.{arith, sym, ◌∙◌}
use Rattle.tracer.specs.WindowsLaws.{keys-below}
use Rattle.checker.specs.AskLaws.{ask_start, ask_fits, ask_last, ask_stops, ask_key, ask_less, ask_next}
use Rattle.checker.proofs.windows_listed.Goals as goal

pub loop-n-init : goal.loop-n-init
loop-n-init c = ask_start _ _ (keys-below c.args.glyphs.now) _ _ c.requires

pub invariant_of-window : goal.invariant_of-window
invariant_of-window c = record { rises = c.loop-n.invariant.asks.window.rises }

pub window_listed-requires : goal.window_listed-requires
window_listed-requires c = ask_fits _ _ _ _ _ c.loop-n.invariant

pub returns-then-not-window_listed : goal.returns-then-not-window_listed
returns-then-not-window_listed c =
    ask_stops _ _ _ _ _ c.loop-n.invariant c.loop-n-test.true (sym c.window_listed.ensures ∙ c.if-not-window_listed.true)

pub bounds-keys : goal.bounds-keys
bounds-keys c = omega (arith, c.loop-n.invariant.asks.size)

pub overflow_add-low : goal.overflow_add-low
overflow_add-low c =
    omega (arith, ask_key _ _ _ _ _ c.loop-n.invariant c.loop-n-test.true (keys-below c.args.glyphs.now))

pub refill-n-requires : goal.refill-n-requires
refill-n-requires c = omega (arith, c.loop-n.invariant.asks.size)

pub loop-n-smaller : goal.loop-n-smaller
loop-n-smaller c =
    ask_less _ _ _ _ _ c.loop-n.invariant c.loop-n-test.true

pub loop-n-preserved : goal.loop-n-preserved
loop-n-preserved c =
    ask_next _ _ _ _ _ c.loop-n.invariant c.loop-n-test.true (sym c.window_listed.ensures ∙ c.if-not-window_listed.false) _ _ c.refill-n.ensures

pub invariant_of-last : goal.invariant_of-last
invariant_of-last c = record { rises = c.loop-n.invariant.asks.window.rises }

pub window_listed-requires-2 : goal.window_listed-requires-2
window_listed-requires-2 c = ask_fits _ _ _ _ _ c.loop-n.invariant

pub returns : goal.returns
returns c =
    c.window_listed-2.ensures ∙ ask_last _ _ _ _ _ c.loop-n.invariant c.loop-n-test.false
