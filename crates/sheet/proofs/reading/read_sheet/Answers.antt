-- `reading::read_sheet` meets its contract: fewer than four lines, lines that are no sheet's, or its parts.
use Rattle.std.proofs.Common.{refl, sym, ◌∙◌}
use Rattle.sheet.specs.PartsLaws.{short-told, reads-parts, reads_not, reads_other}
use Rattle.sheet.proofs.reading.read_sheet.Goals as goal

pub put_parts-requires : goal.put_parts-requires
put_parts-requires c = sym c.is_sheet.ensures ∙ c.if-is_sheet.true

pub returns-then-is_sheet : goal.returns-then-is_sheet
returns-then-is_sheet c =
    (reads-parts _ _ c.first_lines.ensures _ c.in-Some.is _ _ _ _ _ (sym c.is_sheet.ensures ∙ c.if-is_sheet.true) c.put_parts.ensures.0, c.put_parts.ensures.1)

pub returns-else-is_sheet : goal.returns-else-is_sheet
returns-else-is_sheet c = (
  reads_not _ _ c.first_lines.ensures _ c.in-Some.is _ _ _ _ (sym c.is_sheet.ensures ∙ c.if-is_sheet.false),
  record { font = refl; name = refl; keep = refl; rec = refl },
)

pub returns-in-None : goal.returns-in-None
returns-in-None c = (reads_other _ _ _ _ _ (short-told _ _ c.first_lines.ensures c.in-None.is), record { font = refl; name = refl; keep = refl; rec = refl })
