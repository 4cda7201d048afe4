-- What a call of subsetting should leave where its work words and its output were filled before, and its answer as the answer of a stored case
-- (tools/compare/README.md, 'Stored subsets').
use Rattle.std.specs.Prelude.{ℕ, ◌+◌, Bool, true, false, List, [], ◌∷◌, ltb, eqb, length, take, drop, None, Option, Some, Result, Ok, Err}
use Rattle.octets.specs.Pick.{pick}
use Rattle.refusal.specs.Refusal.{number_of}
use Rattle.refusal.specs.declared.Refusal.{Refusal}
use Rattle.outcome.specs.declared.Subsetted.{Subsetted}
use Rattle.subset.specs.Way.{way_number}

-- what every work word, and every byte of the output, is before a call
abbrev pub lent_word : ℕ
lent_word = 2779096485

abbrev pub lent_byte : ℕ
lent_byte = 165

-- how many work words are zeros after an answer: W from refusal 9 passed on (14 and 15 are tested before)
abbrev pub zeroed : Result Subsetted Refusal → ℕ → ℕ
zeroed (Err n) w = pick (pick (ltb 9 (number_of n)) (ltb (number_of n) 14) false) w 0
zeroed (Ok c) w = w

-- are the words, the first of which has number i, zeros below k, and else as they were lent?
unfoldable pub words_left_lem : ℕ → ℕ → List ℕ → Bool
words_left_lem i k [] = true
words_left_lem i k (x ∷ xs) = pick (eqb x (pick (ltb i k) 0 lent_word)) (words_left_lem (i + 1) k xs) false

-- are all bytes as they were lent?
unfoldable pub bytes_left_lem : List ℕ → Bool
bytes_left_lem [] = true
bytes_left_lem (x ∷ xs) = pick (eqb x lent_byte) (bytes_left_lem xs) false

-- the number of a refusal, with all of the output as it was lent
unfoldable pub refused_bytes : ℕ → List ℕ → Option (List ℕ)
refused_bytes n out = pick (bytes_left_lem out) (Some (n ∷ [])) None

-- no refusal, the way and the subset, with the output behind it as it was lent
unfoldable pub subset_bytes : ℕ → ℕ → List ℕ → Option (List ℕ)
subset_bytes way len out =
    pick (ltb (length out) len) None
    (pick (bytes_left_lem (drop len out)) (Some (0 ∷ way ∷ take len out)) None)

abbrev pub answer_bytes : Result Subsetted Refusal → List ℕ → Option (List ℕ)
answer_bytes (Err n) out = refused_bytes (number_of n) out
answer_bytes (Ok c) out = subset_bytes (way_number c.way) c.len out

-- an answer, W, and the work words and the output after the call
unfoldable pub judged : Result Subsetted Refusal → ℕ → List ℕ → List ℕ → Option (List ℕ)
judged r w work out = pick (words_left_lem 0 (zeroed r w) work) (answer_bytes r out) None
