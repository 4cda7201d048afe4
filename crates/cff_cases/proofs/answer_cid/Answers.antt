-- `cff_cases::answer_cid` meets its contract: what finding answers, where two bytes are asked.
use Rattle.std.proofs.Common.{ap, sym, ◌∙◌, Some}
use Rattle.cff_cases.specs.CffCasesLaws.{cid_size, cid-found}
use Rattle.cff_cases.proofs.answer_cid.Goals as goal

pub returns-then-asked-eq2 : goal.returns-then-asked-eq2
returns-then-asked-eq2 c = ap Some c.of_found.ensures ∙ sym (cid-found _ _ c.if-asked-eq2.true _ c.u16_at-cid.ensures.0 _ c.find_cid.ensures)

pub returns : goal.returns
returns c = sym (cid_size _ _ c.if-asked-eq2.false)
