-- The lines of a text of stored cases (tools/oracle/README.md, 'Lines') counted by their letters, and the first that failed, by a test of a line.
use Rattle.std.specs.Prelude.{ℕ, ◌+◌, ◌*◌, ◌<◌, Bool, List, [], ◌∷◌, eqb, get_or, set, None, Option, Some}
use Rattle.std.specs.List.{list_any}
use Rattle.std.specs.Option.{option_or}
use Rattle.octets.specs.Pick.{pick}
use Rattle.octets.specs.Lists.{before}

-- is this one of the letters?
unfoldable pub is_one_of : List ℕ → ℕ → Bool
is_one_of letters kind = list_any (λ (letter : ℕ). eqb letter kind) letters

-- where a line is counted: two counts for each kind and two for lines of no kind, those that agreed before those that failed
unfoldable pub place_of : List ℕ → List ℕ → Bool → ℕ
place_of kinds line agreed = 2 * before (get_or line 0 0) kinds + pick agreed 0 1

-- the counts after a line
unfoldable pub counted : List ℕ → List ℕ → List ℕ → Bool → List ℕ
counted kinds counts line agreed = set counts (place_of kinds line agreed) (get_or counts (place_of kinds line agreed) 0 + 1)

-- the counts after all lines
unfoldable pub counted_all : (List ℕ → Bool) → List ℕ → List ℕ → List (List ℕ) → List ℕ
counted_all agree kinds counts [] = counts
counted_all agree kinds counts (l ∷ ls) = counted_all agree kinds (counted kinds counts l (agree l)) ls

-- the number of the first line that failed, the first being n + 1, and none where none did
unfoldable pub first_failed : (List ℕ → Bool) → ℕ → List (List ℕ) → Option ℕ
first_failed agree n [] = None
first_failed agree n (l ∷ ls) = pick (agree l) (first_failed agree (n + 1) ls) (Some (n + 1))

-- the first line that failed after one more line
abbrev pub earlier : Option ℕ → ℕ → Bool → Option ℕ
earlier first line agreed = pick agreed first (option_or first (Some line))

-- every count is below n
abbrev pub Below : ℕ → List ℕ → Type 0
Below n counts = (i : ℕ) → get_or counts i 0 < n
