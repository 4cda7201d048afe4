-- `capi::put_counts` meets its contract: five stores are one write of five words.
use Rattle.std.proofs.Common.{ap}
use Rattle.capi.specs.Capi.{read_answer}
use Rattle.capi.specs.CapiLaws.{answers_as, answers_counts}
use Rattle.capi.proofs.put_counts.Goals as goal

pub returns-else-answer-lt5 : goal.returns-else-answer-lt5
returns-else-answer-lt5 c = answers_as (answers_counts c.in-Ok.c _ c.keying-k.ensures _ c.if-answer-lt5.false) (ap read_answer c.in-Ok.is)
