-- Worked examples, computed.
use Rattle.std.specs.Prelude.{ℕ, ◌≡◌, refl, Bool, true, false, [], ◌∷◌, eqb}
use Rattle.octets.specs.Pick.{pick}
use Rattle.bits.specs.Bits.{words_for, bit_in, word_of, words_of, bits_of}

-- 31 and 32, the last bit of a word and the first of the next; every number
abbrev two_numbers : ℕ → Bool
two_numbers k = pick (eqb k 31) true (eqb k 32)

abbrev all : ℕ → Bool
all k = true

-- 0, 1, 31, 32 and 33 subroutines
words-rounded : (words_for 0 ∷ words_for 1 ∷ words_for 31 ∷ words_for 32 ∷ words_for 33 ∷ []) ≡ 0 ∷ 1 ∷ 1 ∷ 1 ∷ 2 ∷ []
words-rounded = refl

held_none : bits_of all 0 ≡ []
unfolding words_of
held_none = refl

held_one : bits_of all 1 ≡ 1 ∷ []
unfolding words_of word_of
held_one = refl

-- bits past the count are 0
held_31 : bits_of all 31 ≡ 2147483647 ∷ []
unfolding words_of word_of
held_31 = refl

held_32 : bits_of all 32 ≡ 4294967295 ∷ []
unfolding words_of word_of
held_32 = refl

held_33 : bits_of all 33 ≡ 4294967295 ∷ 1 ∷ []
unfolding words_of word_of
held_33 = refl

held_two : bits_of two_numbers 33 ≡ 2147483648 ∷ 1 ∷ []
unfolding words_of word_of
held_two = refl

-- their bits, and the ones below them
bits_two : (bit_in (7 ∷ 2147483648 ∷ 1 ∷ []) 1 30 ∷ bit_in (7 ∷ 2147483648 ∷ 1 ∷ []) 1 31 ∷ bit_in (7 ∷ 2147483648 ∷ 1 ∷ []) 1 32 ∷ []) ≡ false ∷ true ∷ true ∷ []
bits_two = refl
