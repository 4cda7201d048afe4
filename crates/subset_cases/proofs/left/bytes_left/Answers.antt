-- `left::bytes_left` meets its contract.
use Rattle.std.proofs.Common.{List, [], ◌∷◌, ℕ, ◌∙◌, ◌≡◌, eqb, refl, rules, tests}
use Rattle.std.proofs.lemmas.Iterator.{YieldsList-from_slice}
use Rattle.std.proofs.lemmas.Iterator.Search.{all_from_yields_List}
use Rattle.std.specs.List.{list_all}
use Rattle.subset_cases.specs.Left.{lent_byte, bytes_left_lem}
use Rattle.subset_cases.specs.LeftLaws.{both}
use Rattle.subset_cases.proofs.left.bytes_left.Goals as goal

all-left : (l : List ℕ) → list_all (λ x. eqb x lent_byte) l ≡ bytes_left_lem l
unfolding bytes_left_lem
all-left [] = refl
all-left (x ∷ l) = both (eqb x lent_byte) _ _ (all-left l)

pub returns : goal.returns
returns c =
    all_from_yields_List (λ x. eqb x lent_byte) _ _ _ c.all.ensures.ran (YieldsList-from_slice c.args.bytes.now c.iter.ensures.rest) (λ x b q k. search (rules, tests))
    ∙ all-left c.args.bytes.now
