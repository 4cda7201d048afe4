-- `totals::locals_total` meets its contract: the INDEX of the Private DICT holds the local subroutines of the FD.
use Rattle.record.specs.Record.{rows_of}
use Rattle.cff.specs.Loaded.{program}
use Rattle.fds.specs.NewLocalsLaws.{subrs_in, total_is}
use Rattle.fds.proofs.totals.locals_total.Goals as goal

pub invariant_of-all : goal.invariant_of-all
invariant_of-all c =
    let a = c.args in
    record { sourced = subrs_in a.how.way a.at.now.font.bytes.now (program a.at.now.font) (rows_of a.rows.now) a.words.now a.own a.how.globals a.how.rising a.at.now.fd c.requires _ c.fd_private-q.ensures }

pub returns : goal.returns
returns c =
    let a = c.args in
    total_is a.how.way a.at.now.font.bytes.now (program a.at.now.font) (rows_of a.rows.now) a.words.now a.own a.how.globals a.how.rising a.at.now.fd c.requires _ c.fd_private-q.ensures _ c.subrs_total.ensures
