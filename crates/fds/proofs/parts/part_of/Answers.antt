-- `parts::part_of` meets its contract: the Private DICT, and the INDEX of the local subroutines where there are some.
use Rattle.cff.specs.Loaded.{program}
use Rattle.fds.specs.PartsLaws.{fd-dict, part_is}
use Rattle.fds.proofs.parts.part_of.Goals as goal

pub returns : goal.returns
returns c =
    part_is (program c.args.at.now.font) _ _ _ _ _ (fd-dict _ _ _ c.fd_private.ensures _ _ c.dict_len-size.ensures) c.subrs_len.ensures
