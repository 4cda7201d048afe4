-- `cids::put_cids` meets its contract.
use Rattle.std.proofs.Common.{arith, get_or, length, ◌<◌, ◌∙◌}
use Rattle.find_many.specs.ManyLaws.{cids-turn, cids_end}
use Rattle.find_many.proofs.cids.put_cids.Goals as goal

pub loop-i-preserved : goal.loop-i-preserved
loop-i-preserved c =
    let a = c.args in
    let l = c.loop-i in
    let b : l.i < length l.glyphs = omega (arith, c.requires.1) in
    let d : get_or a.cids.now l.i 0 < 65536 = omega (arith, (c.type_inv.cids l.i).fits) in
    λ number t. cids-turn number a.slots.now a.cids.now l.i t c.loop-i-test.true d l.glyphs b ∙ l.invariant number t

pub returns : goal.returns
returns c = λ number t. cids_end number c.args.cids.now c.loop-i.i c.loop-i-test.false c.loop-i.glyphs ∙ c.loop-i.invariant number t
