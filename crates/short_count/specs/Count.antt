-- What is counted of all short charstrings (crates/short_charstrings `AllShort`), and FNV-1a of 32 bits over their bytes.
use Rattle.std.specs.Prelude.{ℕ, ◌+◌, ◌*◌, ◌%◌, ◌≡◌, List, [], ◌∷◌, length, get_or, set}
use Rattle.std.specs.Int.Bits.{bit_xor}
use Rattle.short_charstrings.specs.AllShort.{Steps}

-- one byte more
abbrev pub fnv : ℕ → ℕ → ℕ
fnv h b = bit_xor h b * 16777619 % 4294967296

unfoldable pub fnv_over : ℕ → List ℕ → ℕ
fnv_over h [] = h
fnv_over h (b ∷ bs) = fnv_over (fnv h b) bs

unfoldable pub fnv_all : ℕ → List (List ℕ) → ℕ
fnv_all h [] = h
fnv_all h (u ∷ us) = fnv_all (fnv_over h u) us

-- one more in all, at place 0, and of its length
abbrev pub one_more : List ℕ → ℕ → List ℕ
one_more c k = set c k (get_or c k 0 + 1)

unfoldable pub tally : List ℕ → List (List ℕ) → List ℕ
tally c [] = c
tally c (u ∷ us) = tally (one_more (one_more c 0) (length u)) us

abbrev pub zeros : List ℕ
zeros = 0 ∷ 0 ∷ 0 ∷ 0 ∷ 0 ∷ []

-- what a walk leaves: counts and hash of the answers, one call after the other, from nothing until none is left
pub record Walked (counts : List ℕ) (r : ℕ) : Type 0 where
  pub all : List (List ℕ)
  pub steps : Steps [] all
  pub counted : counts ≡ tally zeros all
  pub hashed : r ≡ fnv_all 2166136261 all
