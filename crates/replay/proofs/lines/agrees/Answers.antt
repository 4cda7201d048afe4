-- `lines::agrees` meets its contract: each way out is a case of the definition.
use Rattle.std.proofs.Common.{◌∙◌}
use Rattle.cases.specs.LinesLaws.{agrees-short, agrees-blank, agrees-one, agrees-fields}
use Rattle.replay.specs.Answers.{answer_to}
use Rattle.replay.proofs.lines.agrees.Goals as goal

pub returns-then-n-lt2 : goal.returns-then-n-lt2
returns-then-n-lt2 c = agrees-short answer_to c.args.line.now c.if-n-lt2.true

pub returns-then-line-ne32 : goal.returns-then-line-ne32
returns-then-line-ne32 c = agrees-blank answer_to c.args.line.now c.if-n-lt2.false c.if-line-ne32.true

pub returns-then-n-end : goal.returns-then-n-end
returns-then-n-end c = agrees-one answer_to c.args.line.now c.if-n-lt2.false c.if-line-ne32.false _ c.field_end-end.ensures.0 c.if-n-end.true

pub returns : goal.returns
returns c = c.fields_agree.ensures ∙ agrees-fields answer_to c.args.line.now c.if-n-lt2.false c.if-line-ne32.false _ c.field_end-end.ensures.0 c.if-n-end.false
