-- The bits of all subroutines in the work words (document 02, Wish 7): those of the globals, and behind them those of the locals of each FD in use.
use Rattle.std.specs.Prelude.{ℕ, ◌+◌, ◌≤◌, ◌<◌, ◌≡◌, Bool, true, false, List, ◌++◌, eqb, length, take, drop}
use Rattle.octets.specs.Octets.{put}
use Rattle.octets.specs.Pick.{pick}
use Rattle.unfold.specs.Unfold.{Row}
use Rattle.cff.specs.Font.{Program}
use Rattle.subset.specs.Kept.{locals_of}
use Rattle.bits.specs.Bits.{count_below, words_for, bits_of, low_sums, high_sums}
use Rattle.subset.specs.Pruned.{reached, local_set, global_set}
use Rattle.renumber.specs.declared.Ranks.{Ranks}
use Rattle.bodies.specs.Ways.{ranks_in}
use Rattle.fds.specs.Locals.{in_use_lem, fds_in, bits_for, all_numbered}
use Rattle.plan.specs.declared.RankedAll.{RankedAll}

-- the words hold the bits of n subroutines, of which a set is reached, where q tells
pub record Stands (ws : List ℕ) (q : Ranks) (set : ℕ → Bool) (n : ℕ) : Type 0 where
  pub many : q.count ≡ n
  pub inside : q.at + words_for q.count ≤ length ws
  pub words : take (words_for q.count) (drop q.at ws) ≡ bits_of set q.count
  pub reaches : q.reached ≡ count_below set q.count
  pub low : q.low ≡ low_sums set q.count
  pub high : q.high ≡ high_sums set q.count

-- the words hold the bits of the globals, and of the locals of each FD in use where the table tells
pub record AllRanked (p : Program) (rows : List Row) (used ws : List ℕ) (globals : Ranks) (table : List Ranks) : Type 0 where
  pub global_ranks : Stands ws globals (global_set rows) (length p.globals)
  pub local_ranks : (f : ℕ) → f < 256 → in_use_lem used f ≡ true → Stands ws (ranks_in table f) (local_set rows f) (length (locals_of p f))

module _ (p : Program) (rows : List Row) where
  -- the bits one behind the other
  abbrev pub all_bits : List ℕ → List ℕ
  all_bits used = bits_of (global_set rows) (length p.globals) ++ bits_for p rows (fds_in used)

  -- each number that the record has of the globals is that of a subroutine; and of the locals of some FDs
  abbrev pub globals_numbered : Bool
  globals_numbered = eqb (reached (global_set rows)) (count_below (global_set rows) (length p.globals))

  abbrev pub every_numbered : List ℕ → Bool
  every_numbered fs = pick globals_numbered (all_numbered p rows fs) false

-- what ranking leaves: the bits in the words from behind those of the glyphs on, all else as it was; and whether the record has no other number
pub record RanksAll (p : Program) (rows : List Row) (used : List ℕ) (old new : List ℕ) (table : List Ranks) (r : RankedAll) : Type 0 where
  pub words : new ≡ put old (words_for (length p.charstrings)) (all_bits p rows used)
  pub ranked : AllRanked p rows used new r.globals table
  pub told : r.all ≡ every_numbered p rows (fds_in used)
