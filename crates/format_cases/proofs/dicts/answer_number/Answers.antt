-- `dicts::answer_number` meets its contract: each way out is a case of `number_answer`.
use Rattle.std.proofs.Common.{Some, ap, arith, refl, sym, ◌∙◌}
use Rattle.dict_write.specs.ShortLaws.{number_short}
use Rattle.cases.specs.AnswersLaws.{wrote-front}
use Rattle.cases.specs.ReportLaws.{wrote_counts}
use Rattle.format_cases.specs.DecimalsLaws.{decimal-normal, told_none, told_some, number_size, number-sign, number-none, number-found}
use Rattle.format_cases.proofs.dicts.answer_number.Goals as goal

pub returns-then-input-ne11 : goal.returns-then-input-ne11
returns-then-input-ne11 c = sym (number_size c.args.input.now c.if-input-ne11.true)

pub returns-then-input-gt1 : goal.returns-then-input-gt1
returns-then-input-gt1 c = sym (number-sign c.args.input.now c.if-input-ne11.false c.if-input-gt1.true)

pub put_number-requires : goal.put_number-requires
put_number-requires c = let w = told_some _ _ c.decimal_at.ensures _ c.in-Some.is in omega (arith, number_short _ (decimal-normal _ w.1))

pub slice_bounds-of-end : goal.slice_bounds-of-end
slice_bounds-of-end c = let w = told_some _ _ c.decimal_at.ensures _ c.in-Some.is in (wrote_counts c.put_number.ensures.wrote (omega (arith, number_short _ (decimal-normal _ w.1)))).1

pub returns-in-Some : goal.returns-in-Some
returns-in-Some c =
    let w = told_some _ _ c.decimal_at.ensures _ c.in-Some.is in
    ap Some (c.of.ensures ∙ wrote-front c.put_number.ensures.wrote) ∙ sym (number-found c.args.input.now c.if-input-ne11.false c.if-input-gt1.false _ w.0 w.1)

pub returns-in-None : goal.returns-in-None
returns-in-None c = sym (number-none c.args.input.now c.if-input-ne11.false c.if-input-gt1.false _ refl (told_none _ _ c.decimal_at.ensures c.in-None.is))
