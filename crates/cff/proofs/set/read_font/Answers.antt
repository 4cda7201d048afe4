-- `cff::set::read_font` meets its contract: the font of the table that the directory names, or of the file, and where that stands.
use Rattle.std.proofs.Common.{refl}
use Rattle.refusal.specs.HandedOn.{handed_on}
use Rattle.cff.specs.File.{ReadsFile}
use Rattle.cff.specs.FileLaws.{no_place, table_there, table_refused, table-found}
use Rattle.cff.proofs.set.read_font.Goals as goal

pub returns-in_err-start : goal.returns-in_err-start
returns-in_err-start c = handed_on _ _ (ReadsFile _) c.from_residual.ensures.1 (no_place c.args.file.now _ c.place_of.ensures _ c.in_err-start.was)

pub table-requires : goal.table-requires
table-requires c = table_there c.args.file.now _ c.place_of.ensures _ _ c.in_ok-start.was

pub returns-in_err-f : goal.returns-in_err-f
returns-in_err-f c =
    handed_on _ _ (ReadsFile _) c.from_residual-in_err-f.ensures.1 (table_refused c.args.file.now _ c.place_of.ensures _ _ c.in_ok-start.was _ c.table.ensures.0 _ c.read_table.ensures _ c.in_err-f.was)

pub returns : goal.returns
returns c =
    table-found c.args.file.now _ c.place_of.ensures _ _ c.in_ok-start.was _ c.table.ensures.0 _ c.read_table.ensures _ c.in_ok-f.was _ refl refl
    (λ g. record { begun = g.begun; glyphs = g.glyphs; some = g.some; cid = g.cid; ids = g.ids; parts = g.parts }) refl
