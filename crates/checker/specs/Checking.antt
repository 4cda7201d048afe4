-- What the functions of the checker ask and leave (document 02, Wish 6): the windows of what the marked glyphs meet, and the table of how many local
-- subroutines each FD in use has.
use Rattle.std.specs.Prelude.{ℕ, ◌≤◌, ◌<◌, ◌≡◌, Bool, true, List, [], ltb, eqb, length, take, get_or, None, Option, Some}
use Rattle.octets.specs.Pick.{pick}
use Rattle.unfold.specs.Unfold.{Row}
use Rattle.cff.specs.Font.{Program}
use Rattle.subset.specs.Kept.{is_in, locals_of}
use Rattle.row_window.specs.Window.{gathered, within, Window}
use Rattle.tracer.specs.Tracing.{top}

-- ---- windows

-- a window of n keys: the least of the keys from `low` on
pub record Asks (ks keys : List ℕ) (n low : ℕ) : Type 0 where
  pub size : length keys ≡ 65536
  pub window : Window keys n
  pub fits : n ≤ 64512
  pub holds : take n keys ≡ take 64512 (gathered [] (within low top ks))

-- ---- the table

-- whether a number is below a limit, if there is one
abbrev pub below : ℕ → Option ℕ → Bool
below n None = true
below n (Some many) = ltb n many

-- the number of a row against the table
abbrev pub number_fits : ℕ → List (Option ℕ) → Row → Bool
number_fits globals limits r =
    pick (eqb r.kind 0) (below r.number (get_or limits r.fd None)) (pick (eqb r.kind 1) (ltb r.number globals) true)

-- no FD is in use yet
pub record Unlimited (limits : List (Option ℕ)) : Type 0 where
  pub size : length limits ≡ 256
  pub none : (f : ℕ) → f < 256 → get_or limits f None ≡ None

module _ (p : Program) where
  -- an FD that has a count has its own
  pub record Known (limits : List (Option ℕ)) : Type 0 where
    pub size : length limits ≡ 256
    pub own : (f : ℕ) → f < 256 → (get_or limits f None ≡ None → ⊥) → get_or limits f None ≡ Some (length (locals_of p f))

  -- the count of an FD put to its place
  pub record Limited (fd : ℕ) (old new : List (Option ℕ)) : Type 0 where
    pub size : length new ≡ length old
    pub at : (f : ℕ) → f < 256 → get_or new f None ≡ pick (eqb fd f) (Some (length (locals_of p f))) (get_or old f None)

  -- the counts of these FDs, and no limit for the others
  abbrev pub limit_in : List ℕ → ℕ → Option ℕ
  limit_in fds f = pick (is_in f fds) (Some (length (locals_of p f))) None

  pub record Limits (fds : List ℕ) (limits : List (Option ℕ)) : Type 0 where
    pub size : length limits ≡ 256
    pub at : (f : ℕ) → f < 256 → get_or limits f None ≡ limit_in fds f
