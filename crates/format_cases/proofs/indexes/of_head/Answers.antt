-- `indexes::of_head` meets its contract: one write after the other.
use Rattle.std.proofs.Common.{append_assoc, ap, length, ◌∙◌}
use Rattle.format_cases.specs.Indexes.{head_bytes}
use Rattle.format_cases.specs.IndexesLaws.{head-length}
use Rattle.format_cases.proofs.indexes.of_head.Goals as goal

pub returns : goal.returns
unfolding head_bytes
returns c =
    let e = c.num-2.ensures.0 ∙ simp (c.num.ensures.0, c.one-answer.ensures, append_assoc) in
    (e, ap length e ∙ head-length c.args.ix)
