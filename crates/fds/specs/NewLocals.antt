-- The new local subroutines of the FDs in use by the way (document 01, 'Corners in write.rs'), over the ranks that the work words and the
-- tables hold.
use Rattle.std.specs.Prelude.{ℕ, ◌≤◌, ◌<◌, ◌≡◌, Bool, true, List, length, get_or, Option}
use Rattle.index.specs.Write.{total}
use Rattle.unfold.specs.Unfold.{Row, local}
use Rattle.cff.specs.Font.{Program}
use Rattle.subset.specs.Kept.{locals_of}
use Rattle.reach.specs.Reach.{rises}
use Rattle.renumber.specs.Ranks.{calls_by, Ranked}
use Rattle.renumber.specs.declared.Ranks.{Ranks}
use Rattle.bodies.specs.Ways.{new_subrs, subrs_by, reached_in, ranks_in}
use Rattle.bodies.specs.Pruning.{all_hold}
use Rattle.fds.specs.Locals.{in_use_lem, fds_in, UsedOf}
use Rattle.subset.specs.declared.Way.{Way}

module _ (way : Way) (p : Program) (rows : List Row) (ws : List ℕ) (own globals : Ranks) where
  -- the local subroutines of an FD with these ranks by the way, or that their renumbering fails; the same where it does not
  abbrev pub locals_with : ℕ → Option (List (List ℕ))
  locals_with f = subrs_by way rows (reached_in ws own) (calls_by ws own globals) (local f) (locals_of p f)

  abbrev pub new_with : ℕ → List (List ℕ)
  new_with f = new_subrs way rows (reached_in ws own) (calls_by ws own globals) (local f) (locals_of p f)

-- what they ask: ranks in the words, rows in order where that is said
pub record FdIn (b : List ℕ) (p : Program) (ws : List ℕ) (own globals : Ranks) (rows : List Row) (rising : Bool) (f : ℕ) : Type 0 where
  pub size : length b ≤ 67108864
  pub below : f < 256
  pub many : own.count ≡ length (locals_of p f)
  pub ranks : Ranked ws own
  pub global_ranks : Ranked ws globals
  pub order : rising ≡ true → rises rows ≡ true

module _ (way : Way) (p : Program) (rows : List Row) (ws : List ℕ) (table : List Ranks) (globals : Ranks) where
  -- those of an FD by the tables
  abbrev pub locals_by : ℕ → Option (List (List ℕ))
  locals_by f = locals_with way p rows ws (ranks_in table f) globals f

  abbrev pub new_locals : ℕ → List (List ℕ)
  new_locals f = new_with way p rows ws (ranks_in table f) globals f

  -- whether no FD in use fails, and then the bytes of the new local subroutines of each
  pub record MeasuresLocals (used totals : List ℕ) (all : Bool) : Type 0 where
    pub told : all ≡ all_hold locals_by (fds_in used)
    pub sums : all ≡ true → (f : ℕ) → f < 256 → in_use_lem used f ≡ true → get_or totals f 0 ≡ total (new_locals f)
    pub few : all ≡ true → (f : ℕ) → f < 256 → in_use_lem used f ≡ true → get_or totals f 0 ≤ 21989897011200

-- tables of all FDs: which of the font are in use, and where the bits of their local subroutines stand
pub record Tables (b : List ℕ) (p : Program) (used : List ℕ) (table : List Ranks) : Type 0 where
  pub size : length b ≤ 67108864
  pub used_long : 256 ≤ length used
  pub table_long : 256 ≤ length table
  pub fds : UsedOf (length p.privates) used

-- what the FDs in use ask by their tables: ranks in the words, rows in order where that is said
pub record LocalsIn (p : Program) (used ws : List ℕ) (table : List Ranks) (globals : Ranks) (rows : List Row) (rising : Bool) : Type 0 where
  pub many : (f : ℕ) → f < 256 → in_use_lem used f ≡ true → (ranks_in table f).count ≡ length (locals_of p f)
  pub ranks : (f : ℕ) → f < 256 → in_use_lem used f ≡ true → Ranked ws (ranks_in table f)
  pub global_ranks : Ranked ws globals
  pub order : rising ≡ true → rises rows ≡ true
