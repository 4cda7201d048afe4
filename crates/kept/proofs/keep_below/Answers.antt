-- `kept::keep_below` meets its contract.
use Rattle.std.proofs.Common.{Bool, List, [], ◌∷◌, ℕ, ◌&&◌, ◌∙◌, ◌≡◌, false, ltb, refl, rules, tests, true}
use Rattle.std.proofs.lemmas.Iterator.{YieldsList-from_slice}
use Rattle.std.proofs.lemmas.Iterator.Search.{all_from_yields_List}
use Rattle.std.specs.List.{list_all}
use Rattle.octets.specs.Pick.{pick}
use Rattle.octets.specs.Lists.{all_below}
use Rattle.kept.proofs.keep_below.Goals as goal

all-below : (n : ℕ) (l : List ℕ) → list_all (λ x. ltb x n) l ≡ all_below n l
unfolding all_below
all-below n [] = refl
all-below n (x ∷ l) = both (ltb x n) _ _ (all-below n l)
  where
    both : (t a b : Bool) → a ≡ b → (t && a) ≡ pick t b false
    both true a b e = e
    both false a b e = refl

pub returns : goal.returns
returns c =
    all_from_yields_List (λ x. ltb x c.args.n) _ _ _ c.all.ensures.ran (YieldsList-from_slice c.args.keep.now c.iter.ensures.rest) (λ x b q k. search (rules, tests))
    ∙ all-below c.args.n c.args.keep.now
