-- `put_pairs` meets its contract: the pairs that are left, written behind those that are, give what all give.
use Rattle.std.proofs.Common.{arith, ◌<◌, ◌≤◌}
use Rattle.encoding.specs.PutLaws.{left-room, left-next, left_done}
use Rattle.encoding.proofs.put_pairs.Goals as goal

pub put_one-requires : goal.put_one-requires
put_one-requires c =
    let less : c.loop-code.code < 256 = omega (arith, c.loop-code-test.true, c.requires.0) in
    (less, left-room _ _ _ _ c.requires.1 c.loop-code.invariant less)

pub loop-code-preserved : goal.loop-code-preserved
loop-code-preserved c =
    let less : c.loop-code.code < 256 = omega (arith, c.loop-code-test.true, c.requires.0) in
    left-next _ _ _ _ c.requires.1 c.loop-code.invariant less c.put_one.ensures

pub returns : goal.returns
returns c =
    let all : 256 ≤ c.loop-code.code = omega (arith, c.loop-code-test.false, c.requires.0) in
    left_done _ _ _ _ c.requires.1 c.loop-code.invariant all
