-- `reading::rows_after` meets its contract: a case of `rows_after` each.
use Rattle.std.proofs.Common.{sym, ◌∙◌}
use Rattle.sheet.specs.ReadingLaws.{rows_same, rows_many, rows-one, rows-bad}
use Rattle.sheet.proofs.reading.rows_after.Goals as goal

pub returns-then-line-eq0 : goal.returns-then-line-eq0
returns-then-line-eq0 c = rows_same _ _ c.if-line-eq0.true

pub returns-then-rows-ge512 : goal.returns-then-rows-ge512
returns-then-rows-ge512 c = rows_many _ _ c.if-line-eq0.false c.if-rows-ge512.true

pub returns-then-hex_of : goal.returns-then-hex_of
returns-then-hex_of c = rows-one _ _ c.if-line-eq0.false c.if-rows-ge512.false (sym c.hex_of.ensures ∙ c.if-hex_of.true)

pub returns : goal.returns
returns c = rows-bad _ _ c.if-line-eq0.false c.if-rows-ge512.false (sym c.hex_of.ensures ∙ c.if-hex_of.false)
