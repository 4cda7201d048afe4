-- `short_charstrings::is_short` meets its contract: its tests are the definition's, and its bytes are bytes.
use Rattle.std.proofs.Common.{sym, ◌∙◌}
use Rattle.short_charstrings.specs.CodeLaws.{short_none, short_long, short_other, short_runs_on, short-ends}
use Rattle.short_charstrings.proofs.is_short.Goals as goal

pub returns-then-n-lt1 : goal.returns-then-n-lt1
returns-then-n-lt1 c = short_none _ (λ i. (c.type_inv.code i).fits) c.if-n-lt1.true

pub returns-then-n-gt4 : goal.returns-then-n-gt4
returns-then-n-gt4 c = short_long _ (λ i. (c.type_inv.code i).fits) c.if-n-lt1.false c.if-n-gt4.true

pub returns-then-code-n-ne14 : goal.returns-then-code-n-ne14
returns-then-code-n-ne14 c = short_other _ (λ i. (c.type_inv.code i).fits) c.if-n-lt1.false c.if-n-gt4.false c.if-code-n-ne14.true

pub returns-then-ends : goal.returns-then-ends
returns-then-ends c = short-ends _ (λ i. (c.type_inv.code i).fits) c.if-n-lt1.false c.if-n-gt4.false c.if-code-n-ne14.false (sym c.ends.ensures ∙ c.if-ends.true) _ c.ends-then-ends.ensures

pub returns : goal.returns
returns c = short_runs_on _ (λ i. (c.type_inv.code i).fits) c.if-n-lt1.false c.if-n-gt4.false c.if-code-n-ne14.false (sym c.ends.ensures ∙ c.if-ends.false)
