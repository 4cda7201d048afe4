-- `charset::fd_select::next_fd` meets its contract: in its glyph's range the FD is the range's, past the last range it is 0.
use Rattle.std.proofs.Common.{arith}
use Rattle.charset.specs.FdCursorLaws.{step-low, step_in, step_out}
use Rattle.charset.proofs.fd_select.next_fd.Goals as goal

pub overflow_add-next : goal.overflow_add-next
overflow_add-next c = omega (arith, step-low _ _ _ c.into_range-v.ensures c.requires.low)

pub returns-then-gid-end : goal.returns-then-gid-end
returns-then-gid-end c = step_in _ _ _ c.into_range-v.ensures c.if-gid-end.true

pub returns : goal.returns
returns c = step_out _ _ _ c.into_range-v.ensures c.if-gid-end.false
