-- `front::put_names` meets its contract: the header in two pairs, and the INDEX of the name.
use Rattle.std.proofs.Common.{arith}
use Rattle.index.specs.WriteLaws.{size-high}
use Rattle.front.specs.FrontLaws.{header-wrote}
use Rattle.front.proofs.put_names.Goals as goal

pub overflow_cast-offset_size : goal.overflow_cast-offset_size
overflow_cast-offset_size c = omega (arith, c.offset_size.ensures, size-high c.args.total)

pub returns : goal.returns
returns c =
    header-wrote c.args.total _ c.args.name.now c.offset_size.ensures (omega (arith, c.requires.1)) c.pair.ensures c.pair-2.ensures c.put_single.ensures
