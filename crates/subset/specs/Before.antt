-- How many work words a call asked for before Wish 7 of document 02: a word for each subroutine, in place of a bit. The theorem `same_reply`
-- of SizeLaws alone speaks of it.
use Rattle.std.specs.Prelude.{ℕ, ◌+◌, ◌*◌, length}
use Rattle.cff.specs.Font.{Program}
use Rattle.cff.specs.Find.{locals_total}

-- 2 × glyphs + globals + locals of all FDs
abbrev pub work_before : Program → ℕ
work_before p = 2 * length p.charstrings + length p.globals + locals_total p.privates
