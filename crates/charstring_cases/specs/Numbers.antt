-- Stored cases of one number (tools/oracle/README.md, 'Lines'): the answer to the input of a kind n, i, f or b, from the definitions that
-- the proved functions meet. An input that is not of its kind's form has none, and its line then counts as failed.
use Rattle.std.specs.Prelude.{ℕ, List, [], ◌∷◌, ◌++◌, ltb, leb, eqb, ℤ, length, get_or, None, Option, Some}
use Rattle.octets.specs.Pick.{pick}
use Rattle.octets.specs.Octets.{num_at, bytes_of}
use Rattle.type2_number.specs.Number.{is_neg, mag, Read, cut, operator, number, number_at}
use Rattle.type2_number.specs.Encoding.{integer_bytes, fixed_bytes}
use Rattle.charstring.specs.Bias.{bias_of}

-- a number of a charstring: its sign, 1 if negative, and its size in 65536ths
unfoldable pub count_bytes : ℤ → List ℕ
count_bytes z = pick (is_neg z) 1 0 ∷ bytes_of 4 (mag z)

-- kind n: 0 a number that the end cuts off; 1 an operator; 2, the number and the place after it
abbrev pub read_bytes : Read → List ℕ
read_bytes cut = 0 ∷ []
read_bytes operator = 1 ∷ []
read_bytes (number z next) = 2 ∷ (count_bytes z ++ bytes_of 1 next)

unfoldable pub number_answer : List ℕ → Option (List ℕ)
number_answer s = pick (eqb (length s) 0) None (Some (read_bytes (number_at s 0)))

-- kind i: a sign and a size of two bytes, written as an integer
unfoldable pub integer_answer : List ℕ → Option (List ℕ)
integer_answer s =
    pick (eqb (length s) 3)
    (pick (ltb 1 (get_or s 0 0)) None
    (pick (ltb (num_at s 1 2) 32768) (Some (integer_bytes (eqb (get_or s 0 0) 1) (num_at s 1 2))) None)) None

-- kind f: a sign and a size of four bytes, written as a 16.16
unfoldable pub fixed_answer : List ℕ → Option (List ℕ)
fixed_answer s =
    pick (eqb (length s) 5)
    (pick (ltb 1 (get_or s 0 0)) None
    (pick (leb (num_at s 1 4) 2147483648) (Some (fixed_bytes (eqb (get_or s 0 0) 1) (num_at s 1 4))) None)) None

-- kind b: a count of subroutines, and its bias
unfoldable pub bias_answer : List ℕ → Option (List ℕ)
bias_answer s = pick (eqb (length s) 4) (Some (bytes_of 4 (bias_of (num_at s 0 4)))) None
