-- `type2_number::integer` meets its contract: an integer of size up to 65536 is an f32 exactly.
use Rattle.std.proofs.Common.{arith, ◌*◌, ◌∙◌}
use Rattle.type2_number.specs.Rounding.{stands}
use Rattle.type2_number.specs.FloatLaws.{int_pos, int_neg}
use Rattle.type2_number.proofs.integer.Goals as goal

pub returns-then-down-up : goal.returns-then-down-up
returns-then-down-up c =
    let a = c.args in
    int_pos a.up a.down (omega arith) ∙ stands (a.up * 65536) (a.down * 65536) (omega arith) (omega arith)

pub returns-else-down-up : goal.returns-else-down-up
returns-else-down-up c =
    let a = c.args in
    int_neg a.up a.down (omega arith) ∙ stands (a.up * 65536) (a.down * 65536) (omega arith) (omega arith)
