-- The Private parts of the FDs in use with their new local subroutines, as they are written (document 01, 'Layout'; crates/subset,
-- private_part and private_parts).
use Rattle.std.specs.Prelude.{ℕ, ◌+◌, ◌≤◌, ◌<◌, ◌≡◌, true, List, length, get_or}
use Rattle.index.specs.Write.{total}
use Rattle.unfold.specs.Unfold.{Row}
use Rattle.cff.specs.Font.{Program}
use Rattle.subset.specs.Kept.{private_of}
use Rattle.bits.specs.Bits.{count_below}
use Rattle.subset.specs.Pruned.{mapped}
use Rattle.subset.specs.Subset.{private_part, private_parts}
use Rattle.renumber.specs.declared.Ranks.{Ranks}
use Rattle.bodies.specs.Ways.{holds, reached_in, ranks_in}
use Rattle.bodies.specs.Pruning.{all_hold}
use Rattle.fds.specs.Locals.{in_use_lem, fds_in}
use Rattle.fds.specs.NewLocals.{locals_with, new_with, locals_by, new_locals}
use Rattle.subset.specs.declared.Way.{Way}

-- the ranks tell how many are reached
abbrev pub Counted : List ℕ → Ranks → Type 0
Counted ws own = own.reached ≡ count_below (reached_in ws own) own.count

module _ (way : Way) (p : Program) (rows : List Row) (ws : List ℕ) where
  -- the part of an FD with these ranks
  abbrev pub part_with : Ranks → Ranks → ℕ → List ℕ
  part_with own globals f = private_part (private_of p f) (new_with way p rows ws own globals f)

  -- its local subroutines do not fail and have so many bytes together, and there is room for it from a place on
  pub record PartRoom (own globals : Ranks) (sum at room f : ℕ) : Type 0 where
    pub counted : Counted ws own
    pub hold : holds (locals_with way p rows ws own globals f) ≡ true
    pub is : sum ≡ total (new_with way p rows ws own globals f)
    pub few : at + length (part_with own globals f) ≤ 67108864
    pub fits : at + length (part_with own globals f) ≤ room

  module _ (table : List Ranks) (globals : Ranks) where
    -- the parts of some FDs
    abbrev pub parts_for : List ℕ → List ℕ
    parts_for fs = private_parts p fs (mapped (new_locals way p rows ws table globals) fs)

    -- no FD in use fails, the tables tell their bytes, and there is room for their parts from a place on
    pub record PartsRoom (used totals : List ℕ) (at room : ℕ) : Type 0 where
      pub counted : (f : ℕ) → f < 256 → in_use_lem used f ≡ true → Counted ws (ranks_in table f)
      pub hold : all_hold (locals_by way p rows ws table globals) (fds_in used) ≡ true
      pub totals_long : 256 ≤ length totals
      pub sums : (f : ℕ) → f < 256 → in_use_lem used f ≡ true → get_or totals f 0 ≡ total (new_locals way p rows ws table globals f)
      pub few : at + length (parts_for (fds_in used)) ≤ 67108864
      pub fits : at + length (parts_for (fds_in used)) ≤ room
