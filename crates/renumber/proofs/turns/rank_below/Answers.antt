-- `renumber::turns::rank_below` meets its contract: the ones from the sum below the eighth on, or every number of the eighth.
use Rattle.std.proofs.Common.{arith}
use Rattle.renumber.specs.OperandLaws.{eighth-few, eighth-front, sum-front, eighth-whole}
use Rattle.renumber.proofs.turns.rank_below.Goals as goal

pub overflow_mul-from : goal.overflow_mul-from
overflow_mul-from c = let f = eighth-front c.args.of.now.words.now c.args.of.now.q c.args.of.now.ranked c.args.i c.requires _ c.words_for.ensures.0 _ c.eighth-e.ensures in omega (arith, f, c.args.of.now.ranked.few, c.requires)

pub sum_in-sum-requires : goal.sum_in-sum-requires
sum_in-sum-requires c = eighth-few c.args.of.now.words.now c.args.of.now.q c.args.of.now.ranked c.args.i c.requires _ c.words_for.ensures.0 _ c.eighth-e.ensures

pub overflow_mul-result : goal.overflow_mul-result
overflow_mul-result c =
    let f = eighth-front c.args.of.now.words.now c.args.of.now.q c.args.of.now.ranked c.args.i c.requires _ c.words_for.ensures.0 _ c.eighth-e.ensures in
    omega (arith, f, c.args.of.now.ranked.few, c.requires)

pub overflow_sub-result : goal.overflow_sub-result
overflow_sub-result c =
    let f = eighth-front c.args.of.now.words.now c.args.of.now.q c.args.of.now.ranked c.args.i c.requires _ c.words_for.ensures.0 _ c.eighth-e.ensures in
    omega (arith, f)

pub returns-then-next-sum : goal.returns-then-next-sum
returns-then-next-sum c =
    eighth-whole c.args.of.now.words.now c.args.of.now.q c.args.of.now.ranked c.args.i c.requires _ c.words_for.ensures.0 _ c.eighth-e.ensures _ c.sum_in-sum.ensures.0 c.if-j-lt7.true _ c.sum_in-next.ensures.0 c.if-next-sum.true

pub rank-requires : goal.rank-requires
rank-requires c =
    let f = eighth-front c.args.of.now.words.now c.args.of.now.q c.args.of.now.ranked c.args.i c.requires _ c.words_for.ensures.0 _ c.eighth-e.ensures in (
      omega (arith, c.args.of.now.ranked.inside, c.requires),
      omega (arith, c.args.of.now.ranked.few, c.requires),
      f,
      c.sum_in-sum.ensures.1,
      sum-front c.args.of.now.words.now c.args.of.now.q c.args.of.now.ranked c.args.i c.requires _ c.words_for.ensures.0 _ c.eighth-e.ensures _ c.sum_in-sum.ensures.0,
    )
