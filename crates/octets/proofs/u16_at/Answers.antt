-- `octets::u16_at` meets its contract: the two bytes as digits to the base 256.
use Rattle.std.proofs.Common.{arith}
use Rattle.octets.specs.OctetsLaws.{num-two}
use Rattle.octets.proofs.u16_at.Goals as goal

pub returns : goal.returns
returns c =
    let a = c.args in
    (omega (arith, num-two a.s.now a.p c.requires), omega arith)
