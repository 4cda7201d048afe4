-- Charset and FDSelect of a CID-keyed subset (document 01, 'Layout'; TN5176, sections 13 and 19): CIDs and FDs of the glyphs that are written, and
-- the new numbers of the FDs in use.
use Rattle.std.specs.Prelude.{ℕ, ◌-◌, ◌≤◌, ◌<◌, List, [], ◌∷◌, length, get_or, set}
use Rattle.cff.specs.Reads.{program_of}
use Rattle.cff.specs.declared.font.Font.{Font}
use Rattle.subset.specs.Kept.{fds_of}
use Rattle.subset.specs.Subset.{cids_of}
use Rattle.subset.specs.Pruned.{mapped}
use Rattle.order_window.specs.declared.window.Kept.{Kept}
use Rattle.order_window.specs.Window.{glyphs_of}

-- the CIDs of the kept glyphs of a font as they are written, by their bits
abbrev pub kept_cids : List ℕ → Font → List ℕ → List ℕ
kept_cids b f ws = cids_of (program_of b f) (glyphs_of b f ws)

-- and their FDs
abbrev pub kept_fds : List ℕ → Font → List ℕ → List ℕ
kept_fds b f ws = fds_of (program_of b f) (glyphs_of b f ws)

-- the same of a font with its bits
abbrev pub cids_kept : Kept → List ℕ
cids_kept k = kept_cids k.font.now k.o.f k.words.now

abbrev pub fds_kept : Kept → List ℕ
fds_kept k = kept_fds k.font.now k.o.f k.words.now

-- the words of FDs set to 1
unfoldable pub marked_fds : List ℕ → List ℕ → List ℕ
marked_fds [] marks = marks
marked_fds (f ∷ fs) marks = marked_fds fs (set marks f 1)

-- the new number of an FD by a table: 0 there for an FD that is not in use, else the new number plus 1
abbrev pub new_fd_by : List ℕ → ℕ → ℕ
new_fd_by table f = get_or table f 0 - 1

-- the new numbers of FDs
abbrev pub new_fds_by : List ℕ → List ℕ → List ℕ
new_fds_by table fds = mapped (new_fd_by table) fds

-- a table has a new number of one byte for an FD
pub record HasNumber (table : List ℕ) (f : ℕ) : Type 0 where
  pub in_use_lem : 0 < get_or table f 0
  pub small : get_or table f 0 ≤ 256

-- and for each of some FDs
abbrev pub Numbered : List ℕ → List ℕ → Type 0
Numbered table fds = (i : ℕ) → i < length fds → HasNumber table (get_or fds i 0)
