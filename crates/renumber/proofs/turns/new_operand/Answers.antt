-- `renumber::turns::new_operand` meets its contract: the rank is the new number.
use Rattle.std.proofs.Common.{arith}
use Rattle.charstring.specs.BiasLaws.{bias_few}
use Rattle.renumber.specs.OperandLaws.{rank-small, rank-near, operand_some}
use Rattle.renumber.proofs.turns.new_operand.Goals as goal

pub whole-requires : goal.whole-requires
whole-requires c =
    let k = rank-small _ _ c.args.of.now.ranked c.args.v _ c.rank_at.ensures _ c.in_ok-rank.was in
    let b = bias_few _ c.args.of.now.q.reached c.bias.ensures in
    let n = rank-near _ _ c.args.of.now.ranked c.args.v _ c.rank_at.ensures _ c.in_ok-rank.was _ c.bias.ensures in
    (n.0, n.1, omega (arith, c.args.of.now.ranked.few_reached), omega arith)

pub returns : goal.returns
returns c = operand_some _ _ c.args.of.now.ranked c.args.v _ c.rank_at.ensures _ c.in_ok-rank.was _ c.bias.ensures _ c.whole.ensures
