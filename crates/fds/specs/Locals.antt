-- The local subroutines of the FDs in use, as the code holds them (document 02, Wish 7: a bit for each in the work words): a table tells by FD
-- which are in use, and another where the bits of their locals stand in the work words (bodies `ranks_in`).
use Rattle.std.specs.Prelude.{ℕ, ◌+◌, ◌<◌, ◌≡◌, Bool, true, false, not, List, [], ◌∷◌, ◌++◌, eqb, length, get_or}
use Rattle.octets.specs.Pick.{pick}
use Rattle.octets.specs.Octets.{put}
use Rattle.unfold.specs.Unfold.{Row}
use Rattle.cff.specs.Font.{Program}
use Rattle.subset.specs.Kept.{those, locals_of}
use Rattle.bits.specs.Bits.{count_below, words_for, bits_of}
use Rattle.subset.specs.Pruned.{reached, local_set}
use Rattle.renumber.specs.Ranks.{ranks_at}
use Rattle.renumber.specs.declared.Ranks.{Ranks}
use Rattle.bodies.specs.Ways.{ranks_in}
use Rattle.fds.specs.declared.RankedLocals.{RankedLocals}

-- ---- the FDs in use

-- an FD is in use where its word is not 0
abbrev pub in_use_lem : List ℕ → ℕ → Bool
in_use_lem used f = not (eqb (get_or used f 0) 0)

-- those below a number, rising; all
abbrev pub used_below : List ℕ → ℕ → List ℕ
used_below used n = those (in_use_lem used) n 0

abbrev pub fds_in : List ℕ → List ℕ
fds_in used = used_below used 256

-- those in use are of the n that a font has
abbrev pub UsedOf : ℕ → List ℕ → Type 0
UsedOf n used = (f : ℕ) → f < 256 → in_use_lem used f ≡ true → f < n

-- ---- their local subroutines

-- how many words those of some FDs take together
unfoldable pub locals_for : Program → List ℕ → ℕ
locals_for p [] = 0
locals_for p (f ∷ fs) = words_for (length (locals_of p f)) + locals_for p fs

-- the bits of the locals of an FD; of some FDs, one behind the other
abbrev pub fd_bits : Program → List Row → ℕ → List ℕ
fd_bits p rows f = bits_of (local_set rows f) (length (locals_of p f))

unfoldable pub bits_for : Program → List Row → List ℕ → List ℕ
bits_for p rows [] = []
bits_for p rows (f ∷ fs) = fd_bits p rows f ++ bits_for p rows fs

-- each number that the record has of the locals of an FD is that of a subroutine; of some FDs
abbrev pub numbered : Program → List Row → ℕ → Bool
numbered p rows f = eqb (reached (local_set rows f)) (count_below (local_set rows f) (length (locals_of p f)))

unfoldable pub all_numbered : Program → List Row → List ℕ → Bool
all_numbered p rows [] = true
all_numbered p rows (f ∷ fs) = pick (numbered p rows f) (all_numbered p rows fs) false

-- ---- what ranking leaves

-- of one FD: its bits from a place on, and whether the record has no other number
abbrev pub fd_ranks : Program → List Row → ℕ → ℕ → Ranks
fd_ranks p rows at f = ranks_at (local_set rows f) at (length (locals_of p f))

abbrev pub ranked_locals : Program → List Row → ℕ → ℕ → RankedLocals
ranked_locals p rows at f = record { own = fd_ranks p rows at f; all = numbered p rows f }

module _ (p : Program) (rows : List Row) (used : List ℕ) (at : ℕ) where
  -- the table tells an FD's own: the bits of the FDs before it stand in front
  abbrev pub RankedFd : List Ranks → ℕ → Type 0
  RankedFd table f = ranks_in table f ≡ fd_ranks p rows (at + locals_for p (used_below used f)) f

  -- the table tells those in use below n
  abbrev pub RankedFds : List Ranks → ℕ → Type 0
  RankedFds table n = (f : ℕ) → f < n → in_use_lem used f ≡ true → RankedFd table f

  -- the words hold the bits from `at` on, and the table tells where; and whether the record has no other number
  pub record RanksLocals (old new : List ℕ) (table : List Ranks) (all : Bool) : Type 0 where
    pub words : new ≡ put old at (bits_for p rows (fds_in used))
    pub tables : RankedFds table 256
    pub told : all ≡ all_numbered p rows (fds_in used)
