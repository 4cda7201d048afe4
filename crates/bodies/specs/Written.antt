-- Subroutines as they are written, as values that hold their bytes.
use Rattle.std.specs.Prelude.{ℕ, ◌≡◌, Bool, List, [], get_or, Option}
use Rattle.index.specs.Index.{items_of}
use Rattle.record.specs.Record.{rows_of}
use Rattle.unfold.specs.Sites.{site_of}
use Rattle.renumber.specs.Bodies.{Reads}
use Rattle.renumber.specs.declared.Ranks.{Ranks}
use Rattle.renumber.specs.declared.body.Body.{Body}
use Rattle.mask_rows.specs.MaskRows.{CoversOrNone}
use Rattle.mask_rows.specs.declared.Window.{Window}
use Rattle.bodies.specs.Ways.{site_in}
use Rattle.bodies.specs.Sources.{kept_from, subr_from, subrs_from, new_subrs_from}
use Rattle.bodies.specs.Windows.{kind_of, fd_of}
use Rattle.bodies.specs.declared.subroutines.Subroutines.{Subroutines}
use Rattle.bodies.specs.declared.subroutines.Subr.{Subr}

-- which of them are written
abbrev pub kept_of : Subroutines → ℕ → Bool
kept_of all = kept_from all.from all.words.now

-- the k-th as it is written; all, or that their renumbering fails; all
abbrev pub subr_of : Subroutines → ℕ → Option (List ℕ)
subr_of all = subr_from all.from (rows_of all.rows.now) all.words.now all.font.now

abbrev pub subrs_of : Subroutines → Option (List (List ℕ))
subrs_of all = subrs_from all.from (rows_of all.rows.now) all.words.now all.font.now

abbrev pub new_subrs_of : Subroutines → List (List ℕ)
new_subrs_of all = new_subrs_from all.from (rows_of all.rows.now) all.words.now all.font.now

-- one of them as it is written
abbrev pub written : Subr → Option (List ℕ)
written one = subr_of one.of.now one.k

-- one of them with what its renumbering reads, by the bits of those that it calls
abbrev pub Bodied : Subr → Ranks → Ranks → Body → Type 0
Bodied one locals globals b =
    (Reads b (get_or (items_of one.of.now.font.now one.of.now.from.ix) one.k []) one.of.now.words.now locals globals one.of.now.rows.now one.of.now.from.rising b.site)
    × (site_of b.site ≡ site_in one.of.now.from.of one.k)

-- the record in the first bytes of a slice has the rows of those that a window says
abbrev pub Shows : Subroutines → List ℕ → Option Window → Type 0
Shows all bytes w = CoversOrNone all.rows.now bytes (kind_of all.from.of) (fd_of all.from.of) w
