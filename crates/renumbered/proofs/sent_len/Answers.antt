-- `renumbered::sent_len` meets its contract: a number takes at most five bytes.
use Rattle.std.proofs.Common.{arith}
use Rattle.renumber.specs.BodyLaws.{held-few}
use Rattle.renumbered.proofs.sent_len.Goals as goal

pub overflow_add-result : goal.overflow_add-result
overflow_add-result c = let k = held-few c.args.h in omega (arith, c.held_len.ensures, c.own_len.ensures, c.requires)
