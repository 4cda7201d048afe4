-- `codes::glyph_of_string` meets its contract: the text of the id is looked for.
use Rattle.cff.specs.Loaded.{program}
use Rattle.codes.specs.StringLaws.{glyph_by}
use Rattle.codes.proofs.glyph_of_string.Goals as goal

pub returns : goal.returns
returns c =
    let e = c.strings.ensures in
    glyph_by (program c.args.font.now) c.args.sid _ _ c.glyph_of_text.ensures (rw (e.0, e.1) at c.text_at-text.ensures)
