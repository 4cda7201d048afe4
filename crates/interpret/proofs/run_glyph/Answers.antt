-- `interpret::run_glyph` meets its contract: the run of its charstring from depth 10 is its unfolding's.
use Rattle.std.proofs.Common.{ap, Ok, ◌∙◌}
use Rattle.interpret.specs.GlyphLaws.{glyph_empty, glyph_ran}
use Rattle.interpret.proofs.run_glyph.Goals as goal

pub returns-then-code-eq0 : goal.returns-then-code-eq0
returns-then-code-eq0 c = glyph_empty c.args.from.now.font.now c.args.from.now.q c.args.g c.args.code.now _ _ c.if-code-eq0.true

pub returns-in-Err : goal.returns-in-Err
returns-in-Err c = glyph_ran c.args.from.now.font.now c.args.from.now.q c.args.g c.args.code.now _ _ c.if-code-eq0.false c.run_body.ensures _ c.in-Err.is

pub returns-in-Ok-Returned : goal.returns-in-Ok-Returned
returns-in-Ok-Returned c = glyph_ran c.args.from.now.font.now c.args.from.now.q c.args.g c.args.code.now _ _ c.if-code-eq0.false c.run_body.ensures _ (c.in-Ok-Returned.is ∙ ap Ok c.in-Ok-Returned.field-0-is)

pub returns-in-Ok-Ended : goal.returns-in-Ok-Ended
returns-in-Ok-Ended c = glyph_ran c.args.from.now.font.now c.args.from.now.q c.args.g c.args.code.now _ _ c.if-code-eq0.false c.run_body.ensures _ (c.in-Ok-Ended.is ∙ ap Ok c.in-Ok-Ended.field-0-is)
