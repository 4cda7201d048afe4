-- `type2_number::fixed` meets its contract: the division is exact, and the one addition rounds as `rounded` does.
use Rattle.std.proofs.Common.{arith, ◌∙◌}
use Rattle.type2_number.specs.Rounding.{stands_fixed}
use Rattle.type2_number.specs.FloatLaws.{fixed_pos, fixed-neg}
use Rattle.type2_number.proofs.fixed.Goals as goal

pub returns-then-high-lt32768 : goal.returns-then-high-lt32768
returns-then-high-lt32768 c = let a = c.args in fixed_pos a.high a.low (omega arith) (omega arith) ∙ stands_fixed a.high a.low (omega arith) (omega arith)

pub returns-else-high-lt32768 : goal.returns-else-high-lt32768
returns-else-high-lt32768 c = let a = c.args in fixed-neg a.high a.low (omega arith) (omega arith) (omega arith) ∙ stands_fixed a.high a.low (omega arith) (omega arith)
