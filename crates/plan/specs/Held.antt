-- The parts of a subset over the bodies that are measured, as a value that holds the bytes of the font, the work words and the tables.
use Rattle.std.specs.Prelude.{ℕ, List, Option}
use Rattle.record.specs.Record.{rows_of}
use Rattle.cff.specs.Font.{Program}
use Rattle.cff.specs.Reads.{program_of}
use Rattle.order_window.specs.Window.{glyphs_of}
use Rattle.plan.specs.Sizes as sizes
use Rattle.plan.specs.declared.bodies_in.BodiesIn.{BodiesIn}

-- the program that the font is, and the kept glyphs as they are written
abbrev pub program : BodiesIn → Program
program b = program_of b.font.now b.o.f

abbrev pub written : BodiesIn → List ℕ
written b = glyphs_of b.font.now b.o.f b.words.now

-- the globals by the way, or that their renumbering fails
abbrev pub globals : BodiesIn → Option (List (List ℕ))
globals b = sizes.globals_by b.how.way (program b) (rows_of b.rows.now) b.words.now b.used.now b.table.now b.how.globals (written b)
