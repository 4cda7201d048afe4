-- `answer_cut` meets its contract: a call that keeps its own is judged to be the outcome's.
use Rattle.std.proofs.Common.{◌∙◌}
use Rattle.subset_cases.specs.LeftLaws.{judged-cuts}
use Rattle.subset_cases.proofs.answer_cut.Goals as goal

pub returns : goal.returns
returns c = c.judge.ensures ∙ judged-cuts c.cut-r.ensures c.before.before.requires.0 c.before.before.requires.1 _ c.work_of.ensures
