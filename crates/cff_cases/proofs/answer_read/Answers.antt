-- `cff_cases::answer_read` meets its contract: nothing is asked but reading.
use Rattle.std.proofs.Common.{ap, sym, ◌∙◌, Some}
use Rattle.cff_cases.specs.CffCasesLaws.{read_more, read_found}
use Rattle.cff_cases.proofs.answer_read.Goals as goal

pub returns-then-asked-gt0 : goal.returns-then-asked-gt0
returns-then-asked-gt0 c = sym (read_more _ _ c.if-asked-gt0.true)

pub returns : goal.returns
returns c = ap Some c.of_read.ensures ∙ sym (read_found _ _ c.if-asked-gt0.false _ c.read.ensures)
