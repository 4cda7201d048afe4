-- `reading::are_rows` meets its contract.
use Rattle.std.proofs.Common.{ap, sym, ◌∙◌, Some}
use Rattle.cases.specs.Lines.{lines_of}
use Rattle.cases.specs.LinesLeft.{lines_left}
use Rattle.sheet.specs.Reading.{rows_follow}
use Rattle.sheet.specs.ReadingLaws.{follow-rows, follow_next, follow_bad, follow_done}
use Rattle.sheet.proofs.reading.are_rows.Goals as goal

pub loop-line-init : goal.loop-line-init
loop-line-init c = ap (λ x. rows_follow (Some 0) (lines_left x)) c.into_iter-line-iterator.ensures.into_iter_gives ∙ ap (rows_follow (Some 0)) c.of-line-items.ensures

pub loop-line-preserved : goal.loop-line-preserved
loop-line-preserved c = follow_next _ _ _ _ c.in-Some.ensures.steps _ (sym c.in-Some-rows_after.is ∙ c.rows_after.ensures) ∙ c.loop-line.invariant

pub returns-in-None-rows_after : goal.returns-in-None-rows_after
returns-in-None-rows_after c = follow_bad _ _ _ _ c.in-Some.ensures.steps _ c.rows_after.ensures c.in-None-rows_after.is ∙ c.loop-line.invariant ∙ follow-rows (lines_of c.args.text.now)

pub returns : goal.returns
returns c = follow_done _ _ c.in-None.ensures.steps.0 ∙ c.loop-line.invariant ∙ follow-rows (lines_of c.args.text.now)
