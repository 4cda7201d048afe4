-- What is in a list: for rows that are met, and rows that a record lists.
use Rattle.std.specs.Prelude.{◌≡◌, List, ◌∷◌}

-- x is in the list
pub data Has (A : Type 0) (x : A) : List A → Type 0 where
  here : {y : A} {ys : List A} → y ≡ x → Has A x (y ∷ ys)
  there : {y : A} {ys : List A} → Has A x ys → Has A x (y ∷ ys)
