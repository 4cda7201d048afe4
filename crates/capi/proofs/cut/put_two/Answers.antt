-- `capi::cut::put_two` meets its contract: two stores are one write of two words.
use Rattle.std.proofs.Common.{ap, arith, length-set}
use Rattle.capi.specs.Capi.{two_answer}
use Rattle.capi.specs.CapiLaws.{answers_full, answers_as}
use Rattle.capi.specs.SubsetLaws.{answers_two}
use Rattle.capi.proofs.cut.put_two.Goals as goal

pub returns-then-answer-lt2 : goal.returns-then-answer-lt2
returns-then-answer-lt2 c = answers_as (answers_full _ _ _ c.number-then-answer-lt2.ensures c.if-answer-lt2.true) (ap two_answer c.in-Ok.is)

pub bounds-answer-1 : goal.bounds-answer-1
bounds-answer-1 c = simp length-set (omega arith)

pub returns-else-answer-lt2 : goal.returns-else-answer-lt2
returns-else-answer-lt2 c = answers_as (answers_two _ _ _ c.if-answer-lt2.false) (ap two_answer c.in-Ok.is)
