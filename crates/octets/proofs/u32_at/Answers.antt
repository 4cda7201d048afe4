-- `octets::u32_at` meets its contract: the four bytes as digits to the base 256.
use Rattle.std.proofs.Common.{arith}
use Rattle.octets.specs.OctetsLaws.{num-four}
use Rattle.octets.proofs.u32_at.Goals as goal

pub returns : goal.returns
returns c =
    (omega (arith, num-four c.args.s.now c.args.p c.requires), omega arith)
