-- `parts::subrs_len` meets its contract: none, or the INDEX.
use Rattle.std.proofs.Common.{arith, ◌∙◌}
use Rattle.fds.specs.PartsLaws.{no_subrs, some-subrs}
use Rattle.fds.proofs.parts.subrs_len.Goals as goal

pub returns-then-left-eq0 : goal.returns-then-left-eq0
returns-then-left-eq0 c = (no_subrs _ _ c.if-left-eq0.true, omega arith)

pub returns : goal.returns
returns c = (c.index_len.ensures.0 ∙ some-subrs _ _ c.if-left-eq0.false, omega (arith, c.index_len.ensures.1))
