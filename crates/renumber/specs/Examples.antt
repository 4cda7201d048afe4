-- Worked examples, computed: renumbering by bits in the work words.
use Rattle.std.specs.Prelude.{◌≡◌, refl, false, List, [], ◌∷◌, eqb, ℕ, None, Option, Some}
use Rattle.octets.specs.Octets.{bytes_of}
use Rattle.type2_number.specs.Number.{keep24, rounded, number_at}
use Rattle.type2_number.specs.Encoding.{number_bytes, integer_bytes, fixed_bytes}
use Rattle.charstring.specs.Token.{token_at, tokens_from, tokens_of}
use Rattle.charstring.specs.Encode.{encode}
use Rattle.charstring.specs.declared.MaskLen.TheVariants.{Own}
use Rattle.prune.specs.Renumber.{renumber, renumber_charstring}
use Rattle.bits.specs.Bits.{count_below}
use Rattle.renumber.specs.Ranks.{ranks_at, calls_by}
use Rattle.renumber.specs.Run.{is_three_lem, is_five_lem, three_len, five_len, plain_len, run_bytes}

-- three local subroutines, the third reached, and no global ones
abbrev third : List ℕ → Option (List ℕ)
third code = renumber_charstring (calls_by (4 ∷ []) (ranks_at (λ k. eqb k 2) 0 3) (ranks_at (λ k. false) 1 0)) (λ o. Own) code

-- the sums below the eighths of its one word
third_sums : ranks_at (λ k. eqb k 2) 0 3 ≡ record { at = 0; count = 3; reached = 1; low = 0x0001000100010000; high = 0x0001000100010001 }
unfolding count_below
third_sums = refl

-- document 01, 'Corners in write.rs'
third-called : third (0x22 ∷ 0x0a ∷ 0x0e ∷ []) ≡ Some (0x20 ∷ 0x0a ∷ 0x0e ∷ [])
unfolding count_below renumber_charstring renumber tokens_of tokens_from token_at number_at rounded keep24 encode number_bytes integer_bytes fixed_bytes bytes_of
third-called = refl

-- a call of the first one, which is not reached, fails
first-called : third (0x20 ∷ 0x0a ∷ 0x0e ∷ []) ≡ None
unfolding count_below renumber_charstring renumber tokens_of tokens_from token_at number_at rounded keep24 encode number_bytes integer_bytes fixed_bytes bytes_of
first-called = refl

-- 108 0 rmoveto -105 callsubr hintmask, and the first byte of a number that the end cuts off
abbrev six_tokens : List ℕ
six_tokens = 0xf7 ∷ 0x00 ∷ 0x8b ∷ 0x15 ∷ 0x22 ∷ 0x0a ∷ 0x13 ∷ 0xf7 ∷ []

-- its plain tokens, by their lengths: neither the call nor the mask's operator nor the number that is cut off is one
plain_lengths : (plain_len six_tokens 0 ∷ plain_len six_tokens 2 ∷ plain_len six_tokens 3 ∷ plain_len six_tokens 4 ∷ plain_len six_tokens 5 ∷ plain_len six_tokens 6
    ∷ plain_len six_tokens 7 ∷ []) ≡ Some 2 ∷ Some 1 ∷ Some 1 ∷ Some 1 ∷ None ∷ None ∷ None ∷ []
unfolding plain_len
plain_lengths = refl

-- 1131 and 1132 in three bytes, -32768 in three, 1.0 and 0.5 as 16.16, and 256.5, which is left to the reading of one number: of these 1132 and 0.5 are plain
abbrev longer : List (List ℕ)
longer =
    (0x1c ∷ 0x04 ∷ 0x6b ∷ []) ∷ (0x1c ∷ 0x04 ∷ 0x6c ∷ []) ∷ (0x1c ∷ 0x80 ∷ 0x00 ∷ []) ∷ (0xff ∷ 0x00 ∷ 0x01 ∷ 0x00 ∷ 0x00 ∷ [])
    ∷ (0xff ∷ 0x00 ∷ 0x00 ∷ 0x80 ∷ 0x00 ∷ []) ∷ (0xff ∷ 0x01 ∷ 0x00 ∷ 0x80 ∷ 0x00 ∷ []) ∷ []

lengths_of : List (List ℕ) → List (Option ℕ)
lengths_of [] = []
lengths_of (s ∷ ss) = plain_len s 0 ∷ lengths_of ss

longer_lengths : lengths_of longer ≡ None ∷ Some 3 ∷ None ∷ None ∷ Some 5 ∷ None ∷ []
unfolding lengths_of plain_len three_len five_len is_three_lem is_five_lem
longer_lengths = refl

-- the run up to the call is written but for its last number, which the call takes
run-before_call : run_bytes six_tokens None 0 4 ≡ 0xf7 ∷ 0x00 ∷ 0x8b ∷ 0x15 ∷ []
run-before_call = refl
