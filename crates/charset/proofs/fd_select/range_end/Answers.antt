-- `charset::fd_select::range_end` meets its contract: the one test of `range_end`.
use Rattle.std.proofs.Common.{◌∙◌}
use Rattle.charset.specs.FdLaws.{end_one, end_read}
use Rattle.charset.proofs.fd_select.range_end.Goals as goal

pub returns-then-wide-eq0 : goal.returns-then-wide-eq0
returns-then-wide-eq0 c = end_one _ _ _ c.if-wide-eq0.true

pub returns : goal.returns
returns c = c.num_at.ensures.0 ∙ end_read _ _ _ _ c.if-wide-eq0.false
