-- One bit for each number, 32 to a word (document 02, Wish 7), and how many ones stand below a number: those of whole words and of one masked word.
use Rattle.std.specs.Prelude.{ℕ, zero, suc, ◌+◌, ◌-◌, ◌*◌, ◌/◌, ◌%◌, ◌^◌, Bool, false, List, [], ◌∷◌, ltb, eqb, length, get_or, set}
use Rattle.std.specs.Int.Bits.{bit_or}
use Rattle.std.specs.Int.Count.{ones}
use Rattle.octets.specs.Pick.{pick}

-- how many numbers below n are in a set
unfoldable pub count_below : (ℕ → Bool) → ℕ → ℕ
count_below set zero = 0
count_below set (suc n) = count_below set n + pick (set n) 1 0

-- how many words n bits take
abbrev pub words_for : ℕ → ℕ
words_for n = (n + 31) / 32

-- the bit of number k in the words from at on
abbrev pub bit_in : List ℕ → ℕ → ℕ → Bool
bit_in ws at k = eqb (get_or ws (at + k / 32) 0 / 2 ^ (k % 32) % 2) 1

-- the words after the bit of number k was set
abbrev pub set_bit : List ℕ → ℕ → ℕ → List ℕ
set_bit ws at k = set ws (at + k / 32) (bit_or (get_or ws (at + k / 32) 0) (2 ^ (k % 32)))

-- ---- a set of numbers, held

-- those of a set that are below a count
abbrev pub below : (ℕ → Bool) → ℕ → ℕ → Bool
below set count k = pick (ltb k count) (set k) false

-- a bit for each of n numbers from k on, the first one lowest
unfoldable pub word_of : (ℕ → Bool) → ℕ → ℕ → ℕ
word_of set k zero = 0
word_of set k (suc n) = pick (set k) 1 0 + 2 * word_of set (k + 1) n

-- n words, from number k on
unfoldable pub words_of : (ℕ → Bool) → ℕ → ℕ → List ℕ
words_of set k zero = []
words_of set k (suc n) = word_of set k 32 ∷ words_of set (k + 32) n

-- the words that hold a bit for each of count numbers; bits past the count are 0
abbrev pub bits_of : (ℕ → Bool) → ℕ → List ℕ
bits_of set count = words_of (below set count) 0 (words_for count)

-- ---- ones below a number

-- the ones of q whole words
unfoldable pub whole_ones_lem : List ℕ → ℕ → ℕ → ℕ
whole_ones_lem ws at zero = 0
whole_ones_lem ws at (suc q) = whole_ones_lem ws at q + ones (get_or ws (at + q) 0)

-- the ones below number k: of whole words, and of one masked word
abbrev pub ones_below : List ℕ → ℕ → ℕ → ℕ
ones_below ws at k = whole_ones_lem ws at (k / 32) + ones (get_or ws (at + k / 32) 0 % 2 ^ (k % 32))

-- ---- running sums, so that no more words are counted for a number than an eighth of all

-- an eighth of n words, rounded up
abbrev pub eighth : ℕ → ℕ
eighth n = (n + 7) / 8

-- four numbers an eighth apart, 16 bits each, the first lowest
abbrev pub four : (ℕ → ℕ) → ℕ → ℕ → ℕ
four f m e = f m + 65536 * (f (m + e) + 65536 * (f (m + 2 * e) + 65536 * f (m + 3 * e)))

-- how many of count numbers are in a set and stand in the first m words
abbrev pub sum_below : (ℕ → Bool) → ℕ → ℕ → ℕ
sum_below set count m = count_below (below set count) (32 * m)

-- the sums below the first four eighths of the words, and below the others
abbrev pub low_sums : (ℕ → Bool) → ℕ → ℕ
low_sums set count = four (sum_below set count) 0 (eighth (words_for count))

abbrev pub high_sums : (ℕ → Bool) → ℕ → ℕ
high_sums set count = four (sum_below set count) (4 * eighth (words_for count)) (eighth (words_for count))

-- the sum below the j-th eighth
abbrev pub sum_in : ℕ → ℕ → ℕ → ℕ
sum_in low high j = pick (ltb j 4) (low / 2 ^ (16 * j) % 65536) (high / 2 ^ (16 * (j - 4)) % 65536)

-- the ones of the first m of some words, or of all where there are fewer
abbrev pub ones_to : List ℕ → ℕ → ℕ
ones_to ws m = pick (ltb (length ws) m) (whole_ones_lem ws 0 (length ws)) (whole_ones_lem ws 0 m)
