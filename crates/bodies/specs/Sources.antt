-- Subroutines (document 01, 'Corners in write.rs') by the code's own values: where they stand, and how they are written.
use Rattle.std.specs.Prelude.{ℕ, Bool, List, Option}
use Rattle.index.specs.Index.{items_of}
use Rattle.unfold.specs.Unfold.{Row}
use Rattle.renumber.specs.Ranks.{calls_by}
use Rattle.bodies.specs.Ways.{new_subrs, subrs_by, subr_by, reached_in, site_in, is_kept, SubrsIn}
use Rattle.bodies.specs.declared.subrs.Source.{Source}

-- which subroutines are written
abbrev pub kept_from : Source → List ℕ → ℕ → Bool
kept_from from ws k = is_kept from.way (reached_in ws from.own) k

module _ (from : Source) (rows : List Row) (ws b : List ℕ) where
  -- what they ask of the font and the words
  abbrev pub Sourced : Type 0
  Sourced = SubrsIn b ws from.ix from.own from.locals from.globals rows from.rising from.of

  -- the k-th as it is written; all, or that their renumbering fails; all
  abbrev pub subr_from : ℕ → Option (List ℕ)
  subr_from k = subr_by from.way rows (reached_in ws from.own) (calls_by ws from.locals from.globals) (site_in from.of) (items_of b from.ix) k

  abbrev pub subrs_from : Option (List (List ℕ))
  subrs_from = subrs_by from.way rows (reached_in ws from.own) (calls_by ws from.locals from.globals) (site_in from.of) (items_of b from.ix)

  abbrev pub new_subrs_from : List (List ℕ)
  new_subrs_from = new_subrs from.way rows (reached_in ws from.own) (calls_by ws from.locals from.globals) (site_in from.of) (items_of b from.ix)
