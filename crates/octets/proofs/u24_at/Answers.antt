-- `octets::u24_at` meets its contract: the three bytes as digits to the base 256.
use Rattle.std.proofs.Common.{arith}
use Rattle.octets.specs.OctetsLaws.{num-three}
use Rattle.octets.proofs.u24_at.Goals as goal

pub returns : goal.returns
returns c =
    (omega (arith, num-three c.args.s.now c.args.p c.requires), omega arith)
