-- `glyph_bodies::glyphs::charstring_len` meets its contract.
use Rattle.glyph_bodies.specs.GlyphsLaws.{charstring-len}
use Rattle.glyph_bodies.proofs.glyphs.charstring_len.Goals as goal

pub returns : goal.returns
returns c = charstring-len c.args.one.now c.body_of-body.ensures c.body_len.ensures
