-- `octets::num_at` meets its contract: each width is the number of its function.
use Rattle.std.proofs.Common.{arith, lit<, sym, ◌∙◌}
use Rattle.octets.specs.OctetsLaws.{num-none, num-one, num_width}
use Rattle.octets.proofs.num_at.Goals as goal

pub returns-then-n-eq1 : goal.returns-then-n-eq1
returns-then-n-eq1 c = num_width _ _ _ 1 _ c.if-n-eq1.true (c.u8_at.ensures.0 ∙ sym (num-one _ _ (omega arith))) c.u8_at.ensures.1

pub returns : goal.returns
returns c = num_width _ _ _ 0 _ (omega arith) (num-none _ _) (lit< tt)
