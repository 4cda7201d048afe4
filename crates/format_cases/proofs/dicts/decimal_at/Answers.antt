-- `dicts::decimal_at` meets its contract: each part is read where it stands, and tested.
use Rattle.std.proofs.Common.{ap, sym, ◌∙◌}
use Rattle.format_cases.specs.Dicts.{decimal_told}
use Rattle.format_cases.specs.DecimalsLaws.{decimal_is, decimal-reduced, told_made, told_not}
use Rattle.format_cases.proofs.dicts.decimal_at.Goals as goal

pub invariant_of-result : goal.invariant_of-result
invariant_of-result c = decimal-reduced _ (sym c.is_decimal.ensures ∙ c.if-is_decimal.true)

pub returns-then-is_decimal : goal.returns-then-is_decimal
returns-then-is_decimal c = told_made _ (sym c.is_decimal.ensures ∙ c.if-is_decimal.true) ∙ ap decimal_told (decimal_is c.args.s.now _ _ _ _ c.u32_at.ensures.0 c.u32_at-2.ensures.0 c.from-up.ensures c.from-down.ensures)

pub returns : goal.returns
returns c = told_not _ (sym c.is_decimal.ensures ∙ c.if-is_decimal.false) ∙ ap decimal_told (decimal_is c.args.s.now _ _ _ _ c.u32_at.ensures.0 c.u32_at-2.ensures.0 c.from-up.ensures c.from-down.ensures)
