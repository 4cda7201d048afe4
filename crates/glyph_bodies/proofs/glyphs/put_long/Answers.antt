-- `glyph_bodies::glyphs::put_long` meets its contract.
use Rattle.glyph_bodies.specs.GlyphsLaws.{charstring_sited, charstring_room, charstring_writes}
use Rattle.glyph_bodies.proofs.glyphs.put_long.Goals as goal

pub invariant_of-long : goal.invariant_of-long
invariant_of-long c = record { sited = charstring_sited c.args.one.now c.body_of-body.ensures }

pub put_long_body-requires : goal.put_long_body-requires
put_long_body-requires c = charstring_room c.args.one.now c.body_of-body.ensures _ _ c.requires.0 c.requires.1

pub returns : goal.returns
returns c = (charstring_writes c.args.one.now c.body_of-body.ensures c.put_long_body.ensures.0, c.put_long_body.ensures.1)
