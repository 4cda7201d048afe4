-- `bits::whole_ones` meets its contract.
use Rattle.std.proofs.Common.{arith, sym}
use Rattle.bits.specs.BitsLaws.{whole-start, whole-next}
use Rattle.bits.proofs.whole_ones.Goals as goal

pub loop-i-init : goal.loop-i-init
loop-i-init c = (omega arith, sym (whole-start _ _))

pub loop-i-preserved : goal.loop-i-preserved
loop-i-preserved c =
    let a = c.args in
    let w = whole-next a.words.now a.at c.loop-i.i in
    (omega arith, omega (arith, w, c.loop-i.invariant.1, c.ones_of-n.ensures.0))
