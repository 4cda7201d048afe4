-- Laws of the new numbers of the FDs of a subset (document 01, 'Layout').
use Rattle.std.specs.Prelude.{ℕ, ◌+◌, ◌≤◌, ◌<◌, ◌≡◌, List, length, get_or}
use Rattle.std.proofs.Common.{sym, arith}
use Rattle.std.proofs.Math.Decide.{dec_le}
use Rattle.std.proofs.Math.ListN.{get_or-eq_default}
use Rattle.subset.specs.EachLaws.{length-mapped, mapped_at}
use Rattle.glyph_tables.specs.Tables.{new_fd_by, new_fds_by, HasNumber}

-- a table has a word for an FD that has a new number
pub number_there : (table : List ℕ) (f : ℕ) → HasNumber table f → f < length table
number_there table f h = go (dec_le (f + 1) (length table))
  where
    go : Dec (f + 1 ≤ length table) → f < length table
    go (yes k) = omega arith
    go (no k) = omega (arith, h.in_use_lem, get_or-eq_default table 0 {n = f} (omega arith))

module _ (table fds : List ℕ) where
  -- as many new numbers as glyphs
  pub select-count : length (new_fds_by table fds) ≡ length fds
  select-count = length-mapped (new_fd_by table) fds

  -- the new number of the g-th glyph's FD
  pub select-at : (g : ℕ) → g < length fds → new_fd_by table (get_or fds g 0) ≡ get_or (new_fds_by table fds) g 0
  select-at g h = sym (mapped_at (new_fd_by table) fds g 0 h)
