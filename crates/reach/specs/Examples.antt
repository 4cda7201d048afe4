-- Worked examples, computed.
use Rattle.std.specs.Prelude.{ℕ, ◌≡◌, refl, false, List, [], ◌∷◌, None, Some}
use Rattle.std.proofs.Common.{sym, arith}
use Rattle.octets.specs.Octets.{be, num_at}
use Rattle.record.specs.Record.{rows_from, rows_of, lists}
use Rattle.bits.specs.Bits.{count_below, word_of, words_of, bits_of}
use Rattle.reach.specs.Reach.{rises, set_of, ranks_of, number_in}
use Rattle.reach.specs.Before.{same_number}
use Rattle.reach.specs.declared.Subrs.TheVariants.{Global, Local}

-- local 2 of FD 1 reached, a mask of 2 bytes at offset 5 of it, and global 1 reached
abbrev three : List ℕ
three =
    0 ∷ 1 ∷ 0 ∷ 2 ∷ 0 ∷ 0 ∷ 0 ∷ 0 ∷ 0 ∷ 0 ∷ 3 ∷ 1 ∷ 0 ∷ 2 ∷ 0 ∷ 0 ∷ 0 ∷ 5 ∷ 0 ∷ 2 ∷ 1 ∷ 0 ∷ 0 ∷ 1 ∷ 0 ∷ 0 ∷ 0 ∷ 0 ∷ 0 ∷ 0 ∷ []

falls : rises (rows_of three) ≡ false
unfolding rises rows_of rows_from num_at be
falls = refl

-- of three local subroutines of FD 1 the third is reached, and is the first of the new ones; of FD 0 none is
bits_locals : bits_of (set_of (rows_of three) (Local 1)) 3 ≡ 4 ∷ []
unfolding words_of word_of lists rows_of rows_from num_at be
bits_locals = refl

bits_other : bits_of (set_of (rows_of three) (Local 0)) 3 ≡ 0 ∷ []
unfolding words_of word_of lists rows_of rows_from num_at be
bits_other = refl

bits_globals : bits_of (set_of (rows_of three) Global) 2 ≡ 2 ∷ []
unfolding words_of word_of lists rows_of rows_from num_at be
bits_globals = refl

ranks-locals : ranks_of (set_of (rows_of three) (Local 1)) 0 3 ≡ 0 ∷ 0 ∷ 1 ∷ []
unfolding ranks_of count_below lists rows_of rows_from num_at be
ranks-locals = refl

-- behind two other words the bits give the third the number 0, which its word, a rank plus 1, stood for
number-third : number_in (9 ∷ 9 ∷ 4 ∷ []) 2 3 2 ≡ Some 0
number-third = same_number (9 ∷ 9 ∷ 4 ∷ []) 2 (9 ∷ 9 ∷ 0 ∷ 0 ∷ 1 ∷ []) 2 3 (set_of (rows_of three) (Local 1)) (sym bits_locals) (sym ranks-locals) 2 (omega arith)

-- the first is not reached
number-first : number_in (9 ∷ 9 ∷ 4 ∷ []) 2 3 0 ≡ None
number-first = refl
