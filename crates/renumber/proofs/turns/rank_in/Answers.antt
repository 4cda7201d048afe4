-- `renumber::turns::rank_in` meets its contract: the tests of the definition; where all are reached, a number is its own rank.
use Rattle.renumber.specs.OperandLaws.{rank-kept}
use Rattle.renumber.proofs.turns.rank_in.Goals as goal

pub returns-then-q : goal.returns-then-q
returns-then-q c =
    rank-kept c.args.of.now.words.now c.args.of.now.q c.args.of.now.ranked c.if-q.true c.args.i c.if-q-i.false
