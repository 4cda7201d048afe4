-- `put_count` meets its contract: the sign and the size.
use Rattle.std.proofs.Common.{List, append_assoc, ap, arith, ℕ, ◌++◌}
use Rattle.charstring_cases.specs.AnswersLaws.{count_is}
use Rattle.charstring_cases.proofs.put_count.Goals as goal

pub returns : goal.returns
returns c = (
  rw (c.num.ensures.0, c.byte.ensures.0, append_assoc) (ap (λ (l : List ℕ). c.args.to.now ++ l) (count_is _ _ _ _ c.count_of-s.ensures.0 c.count_of-s.ensures.1 c.from.ensures)),
  omega (arith, c.num.ensures.1, c.byte.ensures.1),
)
