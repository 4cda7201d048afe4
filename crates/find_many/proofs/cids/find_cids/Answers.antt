-- `cids::find_cids` meets its contract: the slots are those of the font that the definition reads.
use Rattle.std.proofs.Common.{refl}
use Rattle.find_many.specs.ManyLaws.{slots-start}
use Rattle.find_many.proofs.cids.find_cids.Goals as goal

pub slots_in-requires : goal.slots_in-requires
slots_in-requires c = slots-start _ refl
