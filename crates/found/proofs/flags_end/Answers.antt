-- `found::flags_end` meets its contract.
use Rattle.std.proofs.Common.{arith, sym, ◌∙◌}
use Rattle.found.specs.FlagsLaws.{unset-one}
use Rattle.found.proofs.flags_end.Goals as goal

pub returns-then-has_bit : goal.returns-then-has_bit
returns-then-has_bit c =
    (omega (arith, c.words_end-g.ensures.0), record { none = λ i a b. c.loop-g.invariant.none i (omega (arith, c.loop-g-test.true)) b })

pub loop-g-preserved : goal.loop-g-preserved
loop-g-preserved c =
    unset-one c.args.flagged.now.flags.now c.loop-g.g _ c.loop-g-test.true (sym c.has_bit.ensures ∙ c.if-has_bit.false) c.loop-g.invariant

pub returns : goal.returns
returns c = (omega arith, record { none = λ i a b. c.loop-g.invariant.none i (omega (arith, c.loop-g-test.false)) b })
