-- What is printed of a text of stored cases (tools/oracle/README.md, 'Lines'): a row for each kind and one, `?`, for lines of no kind, each with how many agreed and how many
-- failed; then the first line that failed, or that all agreed.
use Rattle.std.specs.Prelude.{ℕ, zero, suc, ◌+◌, ◌*◌, ◌/◌, ◌%◌, List, [], ◌∷◌, ◌++◌, ltb, length, take, get_or, replicate, None, Option, Some}
use Rattle.octets.specs.Pick.{pick}
use Rattle.cases.specs.Lines.{Answering, lines_of, agrees}
use Rattle.cases.specs.Tally.{counted_all, first_failed}

-- a number below 10 ^ k in decimal digits
unfoldable pub decimal : ℕ → ℕ → List ℕ
decimal zero n = []
decimal (suc k) n = pick (ltb n 10) ((48 + n) ∷ []) (decimal k (n / 10) ++ ((48 + n % 10) ∷ []))

-- ` agreed ` and ` failed `
abbrev pub agreed_word : List ℕ
agreed_word = 32 ∷ 97 ∷ 103 ∷ 114 ∷ 101 ∷ 101 ∷ 100 ∷ 32 ∷ []

abbrev pub failed_word : List ℕ
failed_word = 32 ∷ 102 ∷ 97 ∷ 105 ∷ 108 ∷ 101 ∷ 100 ∷ 32 ∷ []

-- `all agreed` and a line feed
abbrev pub all_agreed : List ℕ
all_agreed = 97 ∷ 108 ∷ 108 ∷ 32 ∷ 97 ∷ 103 ∷ 114 ∷ 101 ∷ 101 ∷ 100 ∷ 10 ∷ []

-- `first failed line `
abbrev pub first_word : List ℕ
first_word = 102 ∷ 105 ∷ 114 ∷ 115 ∷ 116 ∷ 32 ∷ 102 ∷ 97 ∷ 105 ∷ 108 ∷ 101 ∷ 100 ∷ 32 ∷ 108 ∷ 105 ∷ 110 ∷ 101 ∷ 32 ∷ []

-- a word and a number of up to 20 digits
unfoldable pub word_bytes : List ℕ → ℕ → List ℕ
word_bytes word n = word ++ decimal 20 n

-- how many agreed and how many failed
unfoldable pub tally_bytes : ℕ → ℕ → List ℕ
tally_bytes a f = word_bytes agreed_word a ++ word_bytes failed_word f

-- a row
unfoldable pub row_bytes : ℕ → ℕ → ℕ → List ℕ
row_bytes kind a f = kind ∷ (tally_bytes a f ++ (10 ∷ []))

-- a row for each letter, with the counts from place i on
unfoldable pub rows_bytes : List ℕ → List ℕ → ℕ → List ℕ
rows_bytes [] counts i = []
rows_bytes (k ∷ ks) counts i = row_bytes k (get_or counts i 0) (get_or counts (i + 1) 0) ++ rows_bytes ks counts (i + 2)

-- the last line
unfoldable pub first_bytes : Option ℕ → List ℕ
first_bytes None = all_agreed
first_bytes (Some line) = word_bytes first_word line ++ (10 ∷ [])

-- the row of lines that are of no kind
unfoldable pub other_bytes : List ℕ → List ℕ → List ℕ
other_bytes kinds counts = row_bytes 63 (get_or counts (2 * length kinds) 0) (get_or counts (2 * length kinds + 1) 0)

-- the rows and the last line
unfoldable pub report_bytes : List ℕ → List ℕ → Option ℕ → List ℕ
report_bytes kinds counts first = (rows_bytes kinds counts 0 ++ other_bytes kinds counts) ++ first_bytes first

-- `text too long` and a line feed
abbrev pub too_long : List ℕ
too_long = 116 ∷ 101 ∷ 120 ∷ 116 ∷ 32 ∷ 116 ∷ 111 ∷ 111 ∷ 32 ∷ 108 ∷ 111 ∷ 110 ∷ 103 ∷ 10 ∷ []

-- the report of the n bytes that were read into a buffer, by the kinds of up to 24 letters; where they fill it, some may be missing
unfoldable pub report_of : Answering → List ℕ → List ℕ → ℕ → List ℕ
report_of answer kinds buffer n =
    let ls = lines_of (take n buffer) in
    pick (ltb n (length buffer)) (report_bytes kinds (counted_all (agrees answer) kinds (replicate 50 0) ls) (first_failed (agrees answer) 0 ls)) too_long
