-- `octets::put_byte` meets its contract: one store is a write of one byte.
use Rattle.std.proofs.Common.{refl}
use Rattle.octets.specs.PutLaws.{put_one}
use Rattle.octets.proofs.put_byte.Goals as goal

pub returns : goal.returns
returns c = record { is = put_one _ _ _ c.requires; behind = refl }
