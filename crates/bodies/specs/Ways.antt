-- The charstrings and subroutines of a subset, by the way (document 01, 'Corners in write.rs'): renumbered, stubbed or copied; the new
-- numbers of subroutines stand in the work words.
use Rattle.std.specs.Prelude.{ℕ, ◌+◌, ◌≤◌, ◌<◌, ◌≡◌, Bool, true, false, not, List, [], ◌∷◌, length, get_or, None, Option, Some}
use Rattle.octets.specs.Pick.{pick}
use Rattle.bits.specs.Bits.{words_for, bit_in, below}
use Rattle.index.specs.Good.{Good}
use Rattle.index.specs.Write.{total, index_bytes}
use Rattle.index.specs.declared.Index.{Index}
use Rattle.unfold.specs.Unfold.{Row, Site, local, global}
use Rattle.prune.specs.Renumber.{Calls}
use Rattle.subset.specs.Kept.{those}
use Rattle.subset.specs.Pruned.{renumbered_body, renumbered_subrs, stubbed_from}
use Rattle.record.specs.Record.{rows_of}
use Rattle.unfold.specs.Sites.{site_of}
use Rattle.reach.specs.Reach.{SubrsFit, rises}
use Rattle.renumber.specs.Ranks.{Ranked}
use Rattle.renumber.specs.Turn.{body_of_lem}
use Rattle.renumber.specs.Bodies.{calls_of}
use Rattle.renumber.specs.declared.Ranks.{Ranks}
use Rattle.renumber.specs.declared.body.Body.{Body}
use Rattle.reach.specs.declared.Subrs.{Subrs}
use Rattle.reach.specs.declared.Subrs.TheVariants.{Global, Local}
use Rattle.subset.specs.Way.{is_renumbered, is_stubbed}
use Rattle.subset.specs.declared.Way.{Way}

-- the bodies of some, whether there are any, and how many bytes they have together
abbrev pub many_of : Option (List (List ℕ)) → List (List ℕ)
many_of None = []
many_of (Some l) = l

abbrev pub holds : {A : Type 0} → Option A → Bool
holds None = false
holds (Some a) = true

abbrev pub measured_of : Option (List (List ℕ)) → Option ℕ
measured_of None = None
measured_of (Some l) = Some (total l)

-- some bodies that do not fail, and room for their INDEX from a place on
pub record Room (bodies : Option (List (List ℕ))) (sum at room : ℕ) : Type 0 where
  pub done : holds bodies ≡ true
  pub is : sum ≡ total (many_of bodies)
  pub few : sum < 4294967295
  pub early : at < 4294967296
  pub fits : at + length (index_bytes (many_of bodies)) ≤ room

-- ---- subroutines

-- a charstring or subroutine by the way; the same, or that its renumbering fails
abbrev pub new_body : Way → List Row → Calls → Site → List ℕ → List ℕ
new_body way rows calls site s = pick (is_renumbered way) (body_of_lem (renumbered_body rows calls site s)) s

abbrev pub body_by : Way → List Row → Calls → Site → List ℕ → Option (List ℕ)
body_by way rows calls site s = pick (is_renumbered way) (renumbered_body rows calls site s) (Some s)

-- the same of a body with what its renumbering reads
abbrev pub new_by_way : Way → Body → List ℕ
new_by_way way b = new_body way (rows_of b.rows.bytes.now) (calls_of b) (site_of b.site) b.code.now

abbrev pub by_way : Way → Body → Option (List ℕ)
by_way way b = body_by way (rows_of b.rows.bytes.now) (calls_of b) (site_of b.site) b.code.now

-- the subroutines of an INDEX by the way, of which the set is reached; the same, or that their renumbering fails
abbrev pub new_subrs : Way → List Row → (ℕ → Bool) → Calls → (ℕ → Site) → List (List ℕ) → List (List ℕ)
new_subrs way rows set calls site subrs =
    pick (is_renumbered way) (many_of (renumbered_subrs rows set calls site subrs)) (pick (is_stubbed way) (stubbed_from set 0 subrs) subrs)

abbrev pub subrs_by : Way → List Row → (ℕ → Bool) → Calls → (ℕ → Site) → List (List ℕ) → Option (List (List ℕ))
subrs_by way rows set calls site subrs =
    pick (is_renumbered way) (renumbered_subrs rows set calls site subrs) (Some (pick (is_stubbed way) (stubbed_from set 0 subrs) subrs))

-- what the bits in the words say is reached
abbrev pub reached_in : List ℕ → Ranks → ℕ → Bool
reached_in ws own = below (bit_in ws own.at) own.count

-- the k-th of the globals, or of the locals of an FD, as the record names it
abbrev pub site_in : Subrs → ℕ → Site
site_in Global k = global k
site_in (Local fd) k = local fd k

-- which subroutines are written: all, or those reached
abbrev pub is_kept : Way → (ℕ → Bool) → ℕ → Bool
is_kept way set k = pick (is_renumbered way) (set k) true

-- which of them stand as a return
abbrev pub is_stub : Way → (ℕ → Bool) → ℕ → Bool
is_stub way set k = pick (is_stubbed way) (not (set k)) false

-- a subroutine as it is written
abbrev pub subr_by : Way → List Row → (ℕ → Bool) → Calls → (ℕ → Site) → List (List ℕ) → ℕ → Option (List ℕ)
subr_by way rows set calls site subrs k = pick (is_stub way set k) (Some (11 ∷ [])) (body_by way rows calls (site k) (get_or subrs k []))

-- how many are written
abbrev pub kept_count : Way → ℕ → ℕ → ℕ
kept_count way reached count = pick (is_renumbered way) reached count

-- what the subroutines ask: an INDEX of the font, ranks in the words, rows in order where that is said
pub record SubrsIn (b ws : List ℕ) (ix : Index) (own locals globals : Ranks) (rows : List Row) (rising : Bool) (of : Subrs) : Type 0 where
  pub good : Good b ix
  pub few : ix.count < 65536
  pub size : length b ≤ 67108864
  pub many : own.count ≡ ix.count
  pub inside : own.at + words_for own.count ≤ length ws
  pub local_ranks : Ranked ws locals
  pub global_ranks : Ranked ws globals
  pub order : rising ≡ true → rises rows ≡ true
  pub fits : SubrsFit of

-- ---- tables and numbers

-- no bits
abbrev pub no_ranks : Ranks
no_ranks = record { at = 0; count = 0; reached = 0; low = 0; high = 0 }

-- where the bits of the locals of an FD stand, by the table of all FDs
abbrev pub ranks_in : List Ranks → ℕ → Ranks
ranks_in table fd = get_or table fd no_ranks

-- the numbers below k
abbrev pub every : ℕ → Bool
every i = true

abbrev pub up_to : ℕ → List ℕ
up_to k = those every k 0
