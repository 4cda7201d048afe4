-- `strings::order_of` meets its contract: std's order of slices is the one of the definition.
use Rattle.std.specs.Prelude.{ℕ, List, [], ◌∷◌}
use Rattle.std.specs.Ordering.{nat_cmp}
use Rattle.std.specs.Cmp.Lexicographic.{slice_cmp}
use Rattle.std.proofs.Common.{refl, sym, arith, ◌∙◌, ◌≡◌}
use Rattle.std.proofs.lemmas.Cmp.{ranked, by_ranked}
use borrow.Author.Tests.{lt-ltb, le-ltb, eq-eqb, ne_eqb}
use Rattle.strings.specs.Text.{order_of}
use Rattle.strings.proofs.order_of.Goals as goal

ordered : (a b : List ℕ) → order_of a b ≡ slice_cmp nat_cmp a b
unfolding order_of
ordered [] [] = refl
ordered [] (y ∷ ys) = refl
ordered (x ∷ xs) [] = refl
ordered (x ∷ xs) (y ∷ ys) =
    by_ranked _ _ _ (nat_cmp x y) (ranked x y _ refl)
    (λ _ h. simp (lt-ltb x y h))
    (λ _ h. simp (le-ltb x y (omega arith), le-ltb y x (omega arith), eq-eqb x y h) (ordered xs ys))
    (λ _ h. simp (le-ltb x y (omega arith), lt-ltb y x h, ne_eqb x y (omega arith)))

pub returns : goal.returns
returns c = c.cmp.ensures ∙ sym (ordered _ _)
