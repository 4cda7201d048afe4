-- `glyph_bodies::glyphs::put_charstring` meets its contract.
use Rattle.glyph_bodies.specs.GlyphsLaws.{charstring_room, charstring_writes}
use Rattle.glyph_bodies.proofs.glyphs.put_charstring.Goals as goal

pub put_body-requires : goal.put_body-requires
put_body-requires c = charstring_room c.args.one.now c.body_of-body.ensures _ _ c.requires.0 c.requires.1

pub returns : goal.returns
returns c = charstring_writes c.args.one.now c.body_of-body.ensures c.put_body.ensures
