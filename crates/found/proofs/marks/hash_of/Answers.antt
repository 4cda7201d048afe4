-- `found::marks::hash_of` meets its contract.
use Rattle.std.proofs.Common.{arith, refl, ◌∙◌}
use Rattle.found.specs.HashLaws.{hash-more, hash_done}
use Rattle.found.proofs.marks.hash_of.Goals as goal

pub loop-b-preserved : goal.loop-b-preserved
loop-b-preserved c =
    (omega arith, hash-more c.loop-b.h _ c.args.text.now c.loop-b.b-index c.loop-b-test.true refl ∙ c.loop-b.invariant.1)

pub returns : goal.returns
returns c = (hash_done _ _ _ c.loop-b-test.false ∙ c.loop-b.invariant.1, c.loop-b.invariant.0)
