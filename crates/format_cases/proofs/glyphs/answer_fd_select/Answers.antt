-- `glyphs::answer_fd_select` meets its contract: the font is what stands behind the position and the count of glyphs.
use Rattle.std.proofs.Common.{sym, ◌∙◌}
use Rattle.format_cases.specs.IndexesLaws.{rest-lent}
use Rattle.format_cases.specs.GlyphsLaws.{fds_short, fds_whole}
use Rattle.format_cases.proofs.glyphs.answer_fd_select.Goals as goal

pub returns-then-input-lt4 : goal.returns-then-input-lt4
returns-then-input-lt4 c = sym (fds_short c.args.input.now c.if-input-lt4.true)

pub returns : goal.returns
returns c = let s = c.args.input.now in c.fd_select_in.ensures ∙ sym (fds_whole s c.if-input-lt4.false _ c.u16_at-n.ensures.0 _ (rest-lent s 4 c.if-input-lt4.false) _ c.u16_at-at.ensures.0)
