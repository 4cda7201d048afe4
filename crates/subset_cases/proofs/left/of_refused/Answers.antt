-- `left::of_refused` meets its contract: the refusal, where the output is as it was lent.
use Rattle.std.proofs.Common.{Some, ap, sym, ◌∙◌}
use Rattle.subset_cases.specs.LeftLaws.{refused_kept, refused_changed}
use Rattle.subset_cases.proofs.left.of_refused.Goals as goal

pub returns-then-bytes_left : goal.returns-then-bytes_left
returns-then-bytes_left c = ap Some c.one.ensures ∙ sym (refused_kept _ _ (sym c.bytes_left.ensures ∙ c.if-bytes_left.true))

pub returns : goal.returns
returns c = sym (refused_changed _ _ (sym c.bytes_left.ensures ∙ c.if-bytes_left.false))
