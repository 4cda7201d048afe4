-- `codes::name_string` meets its contract: a glyph that is found is in the font.
use Rattle.std.proofs.Common.{ap, sym, ◌∙◌}
use Rattle.codes.specs.Filled.{stored}
use Rattle.codes.specs.StringLaws.{string_stored}
use Rattle.codes.proofs.name_string.Goals as goal

pub returns-in-None : goal.returns-in-None
returns-in-None c =
    ap (stored c.args.table.now c.args.code) (sym c.in-None.is ∙ c.glyph_of_string-found.ensures)

pub returns-in-Some : goal.returns-in-Some
returns-in-Some c =
    c.name_glyph.ensures ∙ string_stored _ c.args.font.now.f c.args.font.now.good c.args.sid _ (sym c.in-Some.is ∙ c.glyph_of_string-found.ensures) _ _
