-- `charset::fd_select::read_fd_select` meets its contract: each return is a case of `fd_select_at` by the format.
use Rattle.charset.specs.FdLaws.{read_lost, read-each_lost, read-each, read-three, read_unknown}
use Rattle.charset.proofs.fd_select.read_fd_select.Goals as goal

pub returns-then-len-at : goal.returns-then-len-at
returns-then-len-at c = read_lost _ _ _ _ c.if-len-at.true

pub returns-then-len-behind : goal.returns-then-len-behind
returns-then-len-behind c =
    read-each_lost _ _ _ _ c.if-len-at.false c.u8_at-format.ensures.0 c.if-format-eq0.true _ c.if-len-behind.true

pub returns-then-format-eq0 : goal.returns-then-format-eq0
returns-then-format-eq0 c =
    read-each _ _ _ _ c.if-len-at.false c.u8_at-format.ensures.0 c.if-format-eq0.true c.if-len-behind.false

pub returns-then-format-eq3 : goal.returns-then-format-eq3
returns-then-format-eq3 c =
    read-three _ _ _ _ c.if-len-at.false c.u8_at-format.ensures.0 _ c.if-format-eq3.true c.read_ranges.ensures

pub returns : goal.returns
returns c =
    read_unknown _ _ _ _ c.if-len-at.false c.u8_at-format.ensures.0 _ c.if-format-eq0.false c.if-format-eq3.false
