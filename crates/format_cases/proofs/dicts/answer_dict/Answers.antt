-- `dicts::answer_dict` meets its contract: its test is that of `dict_answer`.
use Rattle.std.proofs.Common.{Some, ap, sym, ◌∙◌}
use Rattle.format_cases.specs.DictsLaws.{dict_long, dict-found}
use Rattle.format_cases.proofs.dicts.answer_dict.Goals as goal

pub returns-then-input-gt100 : goal.returns-then-input-gt100
returns-then-input-gt100 c = sym (dict_long c.args.input.now c.if-input-gt100.true)

pub returns : goal.returns
returns c = ap Some c.of_dict.ensures ∙ sym (dict-found c.args.input.now c.if-input-gt100.false)
