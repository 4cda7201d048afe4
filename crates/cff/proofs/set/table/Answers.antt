-- `cff::set::table` meets its contract: the table of a font that was read lies in the file.
use Rattle.cff.specs.FileLaws.{font_there}
use Rattle.cff.proofs.set.table.Goals as goal

pub table-requires : goal.table-requires
table-requires c = font_there c.args.file.now c.args.f c.requires
