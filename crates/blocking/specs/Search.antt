-- What the functions of the search ask and leave (document 02, Wish 12).
use Rattle.std.specs.Prelude.{ℕ, ◌≤◌, ◌≡◌, Bool, true, false, List, [], ◌∷◌, eqb, get_or, set, Result, Ok, Err}
use Rattle.octets.specs.Pick.{pick}
use Rattle.dict.specs.Lookup.{ros_in, cid_keyed}
use Rattle.cff.specs.Font.{Program}
use Rattle.cff.specs.Find.{work_size}
use Rattle.subset.specs.Cut.{has_ros_lem, unsupported_in}
use Rattle.culprit.specs.Culprit.{traced_cut, has_way}
use Rattle.outcome.specs.declared.Subsetted.{Subsetted}
use Rattle.refusal.specs.declared.Refusal.{Refusal}
use Rattle.subset.specs.Way.{is_renumbered}
use Rattle.subset.specs.declared.Way.TheVariants.{Renumbered}

-- a font, a new name and work words that are not refused, whatever the keep list is
pub record CanCut (p : Program) (name words : ℕ) : Type 0 where
  pub supported : unsupported_in false p ≡ false
  pub ros : pick (cid_keyed p.top) (has_ros_lem (ros_in p.top)) true ≡ true
  pub named : name ≤ 65535
  pub room : work_size p ≤ words

-- each glyph of a keep list at its own place of a list
unfoldable pub spread : List ℕ → List ℕ → List ℕ
spread [] list = list
spread (g ∷ gs) list = spread gs (set list g g)

-- an answer is that of a renumbered subset
abbrev pub renumbered_in : Result Subsetted Refusal → Bool
renumbered_in (Err n) = false
renumbered_in (Ok c) = is_renumbered c.way

-- glyph g is in a list at its own place, and with a 0 there the list has way 0
unfoldable pub frees : Program → List ℕ → List ℕ → ℕ → ℕ → ℕ → Bool
frees p name list words lent g = pick (eqb (get_or list g 0) 0) false (has_way Renumbered (traced_cut p name (set list g 0) words lent))

-- a list was tried, and is left as it was
pub record Tried (t : Bool) (list list' : List ℕ) (r : Bool) : Type 0 where
  pub answers : r ≡ t
  pub stays : list' ≡ list
