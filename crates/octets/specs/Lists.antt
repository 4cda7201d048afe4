-- Lists: what the definitions of several parts of a font (TN5176) share.
use Rattle.std.specs.Prelude.{ℕ, suc, ◌+◌, Bool, true, false, List, [], ◌∷◌, ◌++◌, ltb, eqb, take, drop}
use Rattle.octets.specs.Pick.{pick}

-- whether each number is below n
unfoldable pub all_below : ℕ → List ℕ → Bool
all_below n [] = true
all_below n (x ∷ xs) = pick (ltb x n) (all_below n xs) false

-- so many elements from a place on
abbrev pub part_of : List ℕ → ℕ → ℕ → List ℕ
part_of l start size = take size (drop start l)

-- lists one behind the other
unfoldable pub joined : List (List ℕ) → List ℕ
joined [] = []
joined (x ∷ xs) = x ++ joined xs

-- all numbers together
unfoldable pub sum_of : List ℕ → ℕ
sum_of [] = 0
sum_of (x ∷ xs) = x + sum_of xs

-- how many elements stand before the first b: all where there is none
unfoldable pub before : ℕ → List ℕ → ℕ
before b [] = 0
before b (x ∷ xs) = pick (eqb x b) 0 (suc (before b xs))
