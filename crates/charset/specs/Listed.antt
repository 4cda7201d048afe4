-- What reading a table with a number for each glyph (TN5176, sections 13 and 19) gives, and lists by their places.
use Rattle.std.specs.Prelude.{ℕ, zero, suc, ◌+◌, List, [], ◌∷◌, Result, Ok, Err}
use Rattle.refusal.specs.declared.Refusal.{Refusal}

-- a number in front of those that follow
abbrev pub onward : ℕ → Result (List ℕ) Refusal → Result (List ℕ) Refusal
onward x (Err e) = Err e
onward x (Ok l) = Ok (x ∷ l)

-- the numbers that were read, and none where reading was refused
abbrev pub numbers_of : Result (List ℕ) Refusal → List ℕ
numbers_of (Err e) = []
numbers_of (Ok l) = l

-- f of each of the n numbers from s on
unfoldable pub list_of : (ℕ → ℕ) → ℕ → ℕ → List ℕ
list_of f s zero = []
list_of f s (suc n) = f s ∷ list_of f (s + 1) n
