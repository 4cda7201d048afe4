-- `put_slot_strings` meets its contract: the strings of the slots are all own strings.
use Rattle.name_strings.specs.WriteLaws.{slots-alone, begun_slots}
use Rattle.name_strings.proofs.put_slot_strings.Goals as goal

pub begin_strings-requires : goal.begin_strings-requires
begin_strings-requires c = slots-alone _ _ _ _ _ c.requires

pub returns : goal.returns
returns c =
    begun_slots _ _ _ _ _ c.begin_strings.ensures c.requires
