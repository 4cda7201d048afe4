-- `private_dicts::read_fd` meets its contract: the FD was read before, so that its Private DICT is not refused.
use Rattle.private_dicts.specs.PrivatesLaws.{fd_not_refused, fd-found}
use Rattle.private_dicts.proofs.read_fd.Goals as goal

pub returns-in-Err : goal.returns-in-Err
returns-in-Err c = absurd (fd_not_refused _ _ c.requires.1 _ c.private_at-read.ensures _ c.in-Err.is)

pub returns-in-Ok : goal.returns-in-Ok
returns-in-Ok c = fd-found _ _ c.requires.1 _ c.private_at-read.ensures _ c.in-Ok.is
