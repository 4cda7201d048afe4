-- What tracing promises (document 02, Wish 1), whatever the font and the keep list are: with flag 1 the record lists exactly what the kept glyphs
-- meet, in rising byte order without repeats; flag 0 stands exactly where a kept glyph is not plain; no subset call refuses a traced record; and a
-- subset cut by it holds every plain kept glyph (document 01's demand 3, with no word of a record).
use Rattle.std.specs.Prelude.{ℕ, length, Option}
use mathlib.Core.List.{List}
use Rattle.unfold.specs.Unfold.{Row}
use Rattle.cff.specs.Font.{Program}
use Rattle.subset.specs.Kept.{kept_of}
use Rattle.traced.specs.Traced.{met_all}

-- the rows that the kept glyphs meet
abbrev pub kept_rows : Program → List ℕ → Option (List Row)
kept_rows p keep = met_all p (kept_of (length p.charstrings) keep)
