-- `glyph_bodies::glyphs::glyph_at` meets its contract: the word has the glyph, and FDSelect its FD.
use Rattle.glyph_bodies.specs.GlyphsLaws.{glyph_read}
use Rattle.glyph_bodies.proofs.glyphs.glyph_at.Goals as goal

pub returns : goal.returns
returns c =
    let w = c.word-number in
    (glyph_read _ _ w.ensures.2 c.args.i c.requires _ _ w.ensures.0 c.fd_of-fd.ensures, w.ensures.2)
