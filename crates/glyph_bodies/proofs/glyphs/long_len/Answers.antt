-- `glyph_bodies::glyphs::long_len` meets its contract.
use Rattle.glyph_bodies.specs.GlyphsLaws.{charstring_sited, charstring-len}
use Rattle.glyph_bodies.proofs.glyphs.long_len.Goals as goal

pub invariant_of-long : goal.invariant_of-long
invariant_of-long c = record { sited = charstring_sited c.args.one.now c.body_of-body.ensures }

pub returns : goal.returns
returns c =
    let r = charstring-len c.args.one.now c.body_of-body.ensures (c.long_body_len.ensures.0, c.long_body_len.ensures.1) in
    (r.0, r.1, c.long_body_len.ensures.2)
