-- What is printed of a text that was taken is that of `cut_taken`.
use Rattle.sheet_read.specs.ProgramLaws.{begun_none, prints_given}
use Rattle.sheet_read.proofs.put_cut.Goals as goal

pub take_input-len-requires : goal.take_input-len-requires
take_input-len-requires g c = begun_none _

pub returns : goal.returns
returns g c = prints_given _ _ _ _ _ c.take_input-len.ensures c.cut_taken.ensures
