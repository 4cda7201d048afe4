-- `renumbered::put_held` meets its contract: the cases of the definition.
use Rattle.std.proofs.Common.{ap, sym}
use Rattle.octets.specs.OutLaws.{writes_none, writes_as}
use Rattle.renumber.specs.Turn.{held_bytes_lem}
use Rattle.renumber.specs.CodeLaws.{held-room}
use Rattle.renumbered.proofs.put_held.Goals as goal

pub put_number-requires : goal.put_number-requires
put_number-requires c = held-room _ _ c.in-Some.is _ _ c.requires

pub returns-in-None : goal.returns-in-None
returns-in-None c = writes_as (writes_none _) (ap held_bytes_lem (sym c.in-None.is))

pub returns-in-Some : goal.returns-in-Some
returns-in-Some c = writes_as c.put_number.ensures (ap held_bytes_lem (sym c.in-Some.is))
