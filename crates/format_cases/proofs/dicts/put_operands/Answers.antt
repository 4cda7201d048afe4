-- `dicts::put_operands` meets its contract.
use Rattle.std.proofs.Common.{ap, arith, ℕ, ◌+◌, ◌-◌, ◌∙◌, ◌∷◌, ◌≡◌}
use Rattle.dict.proofs.LookupLaws.{operands_out}
use Rattle.dict_write.specs.EntryLaws.{none_left, none_refused, none_number, operand_first}
use Rattle.dict.specs.Places.{operands_at}
use Rattle.cases.specs.Adding.{adding-turn, adding_end}
use Rattle.format_cases.specs.DictsLaws.{operands_none, operands_next}
use Rattle.format_cases.proofs.dicts.put_operands.Goals as goal

pub returns-then-d-at : goal.returns-then-d-at
returns-then-d-at c = adding_end c.loop.invariant.1 (operands_none _ (operands_out _ _ _ c.if-d-at.true))

pub loop-preserved : goal.loop-preserved
loop-preserved c =
    let l = c.loop in
    let w = c.put_decimal.ensures in
    let left = c.args.count - l.counter in
    let n : left - 1 ≡ c.args.count - (l.counter + 1) = omega arith in
    let f = operand_first _ _ left _ c.number_at.ensures c.in-Ok-Some.number (cc) (omega arith) ∙ ap (λ (k : ℕ). c.in-Ok-Some.number.value ∷ operands_at k c.args.d.now c.in-Ok-Some.number.next) n in
    (omega (arith, w.1, l.invariant.0), adding-turn l.invariant.1 _ _ (operands_next _ _ _ f) w.0)

pub returns-in-Ok-None : goal.returns-in-Ok-None
returns-in-Ok-None c = adding_end c.loop.invariant.1 (operands_none _ (none_number _ _ _ _ c.number_at.ensures (cc)))

pub returns-in-Err : goal.returns-in-Err
returns-in-Err c = adding_end c.loop.invariant.1 (operands_none _ (none_refused _ _ _ _ c.number_at.ensures _ c.in-Err.is))

pub returns : goal.returns
returns c = adding_end c.loop.invariant.1 (operands_none _ (none_left _ _ _ (omega arith)))
