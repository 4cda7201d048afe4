-- `index::put_end` meets its contract: the offset goes to its place, and the output stays where it stands.
use Rattle.std.proofs.Common.{refl, arith}
use Rattle.octets.specs.OctetsLaws.{length-bytes}
use Rattle.index.proofs.put_end.Goals as goal

pub returns : goal.returns
returns c =
    record {
      wrote = record { is = c.put_num.ensures.is; behind = rw length-bytes refl };
      stays = refl;
      same = refl;
      size = c.put_num.auto.out;
    }
