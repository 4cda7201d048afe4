-- `found::name_found` meets its contract: it looks for the text of the glyph's id.
use Rattle.first_glyphs.specs.FoundLaws.{name_by}
use Rattle.found.proofs.name_found.Goals as goal

pub returns : goal.returns
returns c =
    name_by _ _ _ _ _ _ c.id_of-id.ensures.0 c.text_at-name.ensures c.text_found.ensures
