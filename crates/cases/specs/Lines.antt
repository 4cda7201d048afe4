-- A text of stored cases (tools/oracle/README.md, 'Lines'): a line `KIND INPUT ANSWER` each.
-- A line agrees where our answer to its input is its answer; any other line has failed. None is passed over.
use Rattle.std.specs.Prelude.{ℕ, ◌+◌, ◌-◌, Bool, false, List, [], ◌∷◌, ltb, leb, eqb, length, take, drop, get_or, None, Option, Some}
use Rattle.octets.specs.Pick.{pick}
use Rattle.hexlines.specs.Hexlines.{field_end_lem}
use Rattle.cases.specs.Fields.{field_bytes, both_same}

-- a byte in front of the first line
abbrev pub in_front : ℕ → List (List ℕ) → List (List ℕ)
in_front x [] = (x ∷ []) ∷ []
in_front x (l ∷ ls) = (x ∷ l) ∷ ls

-- the lines of a text: each ends at a line feed, the last one there or with the text
unfoldable pub lines_of : List ℕ → List (List ℕ)
lines_of [] = []
lines_of (x ∷ xs) = pick (eqb x 10) ([] ∷ lines_of xs) (in_front x (lines_of xs))

-- answers to an input, by a kind's letter; none for an input that is not of its kind's form
abbrev pub Answering : Type 0
Answering = ℕ → List ℕ → Option (List ℕ)

-- the answer to an input of a kind, if there is an input
abbrev pub answer_of : Answering → ℕ → Option (List ℕ) → Option (List ℕ)
answer_of answer kind None = None
answer_of answer kind (Some s) = answer kind s

-- is this a case, and our answer to its input its answer? An input and an answer have up to 4,096 bytes.
unfoldable pub agrees : Answering → List ℕ → Bool
agrees answer line =
    let end = field_end_lem line 2 (length line) in
    pick (ltb (length line) 2) false
    (pick (eqb (get_or line 1 0) 32)
    (pick (leb (length line) end) false
    (both_same (answer_of answer (get_or line 0 0) (field_bytes 4096 (take (end - 2) (drop 2 line)))) (field_bytes 4096 (drop (end + 1) line)))) false)
