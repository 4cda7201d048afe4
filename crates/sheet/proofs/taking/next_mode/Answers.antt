-- `taking::next_mode` meets its contract: a case of `next_mode` each.
use Rattle.sheet.specs.TakingLaws.{mode_head, mode_row, mode_within, mode_same}
use Rattle.sheet.proofs.taking.next_mode.Goals as goal

pub returns-then-mode-lt4 : goal.returns-then-mode-lt4
returns-then-mode-lt4 c = mode_head _ _ c.if-b-eq10.true c.if-mode-lt4.true

pub returns-then-b-eq10 : goal.returns-then-b-eq10
returns-then-b-eq10 c = mode_row _ _ c.if-b-eq10.true c.if-mode-lt4.false

pub returns-then-mode-eq4 : goal.returns-then-mode-eq4
returns-then-mode-eq4 c = mode_within _ _ c.if-b-eq10.false c.if-mode-eq4.true

pub returns : goal.returns
returns c = mode_same _ _ c.if-b-eq10.false c.if-mode-eq4.false
