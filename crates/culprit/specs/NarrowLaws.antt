-- Which glyphs can be the culprit (document 02, Wish 12): the rows of a list without a glyph are among those of the list, and those of a body that the
-- glyph does not run are the same. So a body that fails, and that the glyph does not run, fails without it.
use Rattle.std.specs.Prelude.{ℕ, get_or, Option}
use mathlib.Core.List.{List, []}
use Rattle.unfold.specs.Unfold.{Row, Site, glyph, local, global}
use Rattle.cff.specs.Font.{Program}
use Rattle.subset.specs.Kept.{locals_of}
use Rattle.subset.specs.Pruned.{renumbered_body, calls_in}

-- the FD whose local subroutines a body calls; a global one those of glyph 0, which is always kept
abbrev pub fd_at : Program → Site → ℕ
fd_at p (glyph h) = get_or p.fds h 0
fd_at p (local f k) = f
fd_at p (global k) = get_or p.fds 0 0

abbrev pub code_at : Program → Site → List ℕ
code_at p (glyph h) = get_or p.charstrings h []
code_at p (local f k) = get_or (locals_of p f) k []
code_at p (global k) = get_or p.globals k []

-- a body renumbered by some rows
abbrev pub body_at : Program → List Row → Site → Option (List ℕ)
body_at p rows site = renumbered_body rows (calls_in p rows (fd_at p site)) site (code_at p site)
