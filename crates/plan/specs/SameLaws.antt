-- What the work words and the tables give by the way is what crates/subset defines: subroutines, charstrings, and where renumbering fails.
use Rattle.std.specs.Prelude.{ℕ, suc, ◌+◌, ◌<◌, ◌≡◌, refl, Bool, true, false, List, [], ◌∷◌, length, get_or, Option, Some}
use Rattle.std.proofs.Common.{sym, ap, ◌∙◌, arith}
use Rattle.octets.specs.Pick.{pick}
use Rattle.octets.specs.Steps.{and}
use Rattle.unfold.specs.Unfold.{Row, Site}
use Rattle.prune.specs.Renumber.{Calls}
use Rattle.subset.specs.Kept.{is_in}
use Rattle.subset.specs.Pruned.{each, stubbed_from, renumbered_body, renumbered_subrs}
use Rattle.subset.specs.KeptListLaws.{in_head, in_more}
use Rattle.bodies.specs.Ways.{holds, body_by, subrs_by}
use Rattle.bodies.specs.Pruning.{all_hold}
use Rattle.bodies.specs.RecordLaws.{stubbed-alike}
use Rattle.subset.specs.Way.{is_renumbered, is_stubbed}
use Rattle.subset.specs.declared.Way.{Way}

-- ---- by the way

-- the same calls make the same body where it is renumbered
pub body_same : (way : Way) (rows : List Row) (calls calls' : Calls) (site : Site) (s : List ℕ) → (is_renumbered way ≡ true → calls ≡ calls')
    → body_by way rows calls site s ≡ body_by way rows calls' site s
body_same way rows calls calls' site s same = go (is_renumbered way) (λ e. same e)
  where
    go : (t : Bool) → (t ≡ true → calls ≡ calls')
        → pick t (renumbered_body rows calls site s) (Some s) ≡ pick t (renumbered_body rows calls' site s) (Some s)
    go true h = ap (λ (c : Calls). renumbered_body rows c site s) (h refl)
    go false h = refl

-- subroutines are the same where the sets agree on them; where they are renumbered, on all numbers
pub subrs-same : (way : Way) (rows : List Row) (set set' : ℕ → Bool) (calls calls' : Calls) (site : ℕ → Site) (subrs : List (List ℕ))
    → ((i : ℕ) → i < length subrs → set i ≡ set' i) → (is_renumbered way ≡ true → (set ≡ set') × (calls ≡ calls'))
    → subrs_by way rows set calls site subrs ≡ subrs_by way rows set' calls' site subrs
subrs-same way rows set set' calls calls' site subrs near same = go (is_renumbered way) (is_stubbed way) (λ e. same e)
  where
    go : (t u : Bool) → (t ≡ true → (set ≡ set') × (calls ≡ calls'))
        → pick t (renumbered_subrs rows set calls site subrs) (Some (pick u (stubbed_from set 0 subrs) subrs))
        ≡ pick t (renumbered_subrs rows set' calls' site subrs) (Some (pick u (stubbed_from set' 0 subrs) subrs))
    go true u h =
        ap (λ (s : ℕ → Bool). renumbered_subrs rows s calls site subrs) (h refl).0
        ∙ ap (λ (c : Calls). renumbered_subrs rows set' c site subrs) (h refl).1
    go false true h =
        ap Some (stubbed-alike set set' 0 subrs (λ i k. let z : 0 + i ≡ i = omega arith in ap set z ∙ near i k ∙ ap set' (sym z)))
    go false false h = refl

-- ---- each of some

-- the same of each makes the same of all
pub each-alike : {A : Type 0} (f g : ℕ → Option A) (order : List ℕ) → ((i : ℕ) → i < length order → f (get_or order i 0) ≡ g (get_or order i 0)) → each f order ≡ each g order
unfolding each
each-alike f g [] same = refl
each-alike {A} f g (x ∷ order) same =
    ap (λ (m : Option A). and m (λ b. and (each f order) (λ bs. Some (b ∷ bs)))) (same 0 (omega arith))
    ∙ ap (λ (m : Option (List A)). and (g x) (λ b. and m (λ bs. Some (b ∷ bs)))) (each-alike f g order (λ i h. same (suc i) (omega arith)))

-- all of a list hold where each is the same
pub hold_same : {A : Type 0} (f g : ℕ → Option A) (fs : List ℕ) → ((x : ℕ) → is_in x fs ≡ true → f x ≡ g x) → all_hold f fs ≡ all_hold g fs
unfolding all_hold is_in
hold_same f g [] same = refl
hold_same {A} f g (x ∷ fs) same =
    ap (λ (m : Option A). pick (holds m) (all_hold f fs) false) (same x (in_head x x fs refl))
    ∙ ap (λ (t : Bool). pick (holds (g x)) t false) (hold_same f g fs (λ y h. same y (in_more x y fs h)))
