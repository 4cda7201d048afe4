-- `glyph_entries::give` meets its contract: the name is copied and four stores are one write, where there is room for both.
use Rattle.glyph_entries.specs.GlyphLaws.{tells-stored}
use Rattle.glyph_entries.proofs.give.Goals as goal

pub returns : goal.returns
returns c =
    tells-stored _ _ _ _ _ _ c.if-name-text.false c.if-answer-lt4.false _ _ c.put_bytes-end.ensures
