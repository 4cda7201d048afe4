-- `glyphs::answer_charset` meets its contract: the font is what stands behind the position and the count of glyphs.
use Rattle.std.proofs.Common.{sym, ◌∙◌}
use Rattle.format_cases.specs.IndexesLaws.{rest-lent}
use Rattle.format_cases.specs.GlyphsLaws.{charset-short, charset-none, charset-whole}
use Rattle.format_cases.proofs.glyphs.answer_charset.Goals as goal

pub returns-then-input-lt4 : goal.returns-then-input-lt4
returns-then-input-lt4 c = sym (charset-short c.args.input.now c.if-input-lt4.true)

pub returns-then-n-eq0 : goal.returns-then-n-eq0
returns-then-n-eq0 c = sym (charset-none c.args.input.now c.if-input-lt4.false _ c.u16_at-n.ensures.0 c.if-n-eq0.true)

pub returns : goal.returns
returns c = let s = c.args.input.now in c.charset_in.ensures ∙ sym (charset-whole s c.if-input-lt4.false _ c.u16_at-n.ensures.0 _ (rest-lent s 4 c.if-input-lt4.false) _ c.u16_at-at.ensures.0 c.if-n-eq0.false)
