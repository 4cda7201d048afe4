-- `glyph_bodies::glyphs::body_of` meets its contract: the glyph and the tables say which charstring, and which calls.
use Rattle.std.proofs.Common.{refl, ◌∙◌}
use Rattle.glyph_bodies.specs.GlyphsLaws.{charstring_inputs}
use Rattle.glyph_bodies.proofs.glyphs.body_of.Goals as goal

pub rows_known-rows-requires : goal.rows_known-rows-requires
rows_known-rows-requires c = c.args.one.now.asked.order

pub new-requires : goal.new-requires
new-requires c = charstring_inputs c.args.one.now.asked _ refl _ c.item-code.ensures.0

pub returns : goal.returns
returns c =
    let r = c.new.ensures in
    record {
      code_is = r.code_is ∙ c.item-code.ensures.0;
      words_are = r.words_are;
      locals_are = r.locals_are;
      globals_are = r.globals_are;
      rows_are = r.rows_are ∙ c.rows_known-rows.ensures.0;
      rises_so = r.rises_so ∙ c.rows_known-rows.ensures.1;
      site_is = r.site_is;
    }
