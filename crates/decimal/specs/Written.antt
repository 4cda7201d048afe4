-- A number written into a DICT (document 01, 'Corners in write.rs'): an integer below 2147483647 in size in the shortest form of
-- TN5176, section 4, table 3; any other number as a real without exponent, as Rust prints an f64.
use Rattle.std.specs.Prelude.{ℕ, zero, suc, ◌+◌, ◌-◌, ◌*◌, ◌/◌, ◌%◌, Bool, false, List, [], ◌∷◌, ◌++◌, ltb, leb, eqb}
use Rattle.octets.specs.Pick.{pick}
use Rattle.octets.specs.Octets.{bytes_of}
use Rattle.decimal.specs.declared.Decimal.{Decimal}
use Rattle.decimal.specs.Values.{trunc_of}

-- the integer v, or -v where s, in the five-byte form: 29 and two's complement
unfoldable pub int5_bytes : Bool → ℕ → List ℕ
unfolding bytes_of
int5_bytes s v = 29 ∷ bytes_of 4 (pick s (4294967296 - v) v)

-- the shortest form: one byte to 107, two to 1131, 28 and two bytes where 16 bits hold it, else the five-byte form
unfoldable pub int_bytes : Bool → ℕ → List ℕ
unfolding bytes_of int5_bytes
int_bytes s v =
    pick (leb v 107) (pick s (139 - v) (139 + v) ∷ [])
    (pick (leb v 1131) (((v - 108) / 256 + pick s 251 247) ∷ ((v - 108) % 256) ∷ [])
    (pick (leb v (pick s 32768 32767)) (28 ∷ bytes_of 2 (pick s (65536 - v) v)) (int5_bytes s v)))

-- the last k decimal digits of n
unfoldable pub digits_of : ℕ → ℕ → List ℕ
digits_of zero n = []
digits_of (suc k) n = digits_of k (n / 10) ++ (n % 10 ∷ [])

-- how many decimal digits n has, at most k more than one
unfoldable pub width_in : ℕ → ℕ → ℕ
width_in zero n = 1
width_in (suc k) n = let more = suc (width_in k (n / 10)) in pick (ltb n 10) 1 more

-- how many decimal digits n has; 0 has one
unfoldable pub width_of : ℕ → ℕ
unfolding width_in
width_of n = width_in n n

-- the nibbles of a real without its sign: the integer part, and where there is a fraction the point and its digits
unfoldable pub bare_text : Decimal → List ℕ
unfolding digits_of width_of trunc_of
bare_text d = digits_of (width_of (trunc_of d)) (trunc_of d) ++ pick (eqb d.down 0) [] (10 ∷ digits_of d.down d.digits)

-- the nibbles of a real: a minus where it is negative
unfoldable pub real_text : Decimal → List ℕ
unfolding bare_text
real_text d = pick d.neg (14 ∷ []) [] ++ bare_text d

-- two nibbles to a byte, with one or two ends
unfoldable pub packed : List ℕ → List ℕ
packed [] = 255 ∷ []
packed (x ∷ []) = (x * 16 + 15) ∷ []
packed (x ∷ y ∷ xs) = (x * 16 + y) ∷ packed xs

-- a real: 30 and its nibbles
unfoldable pub real_bytes : Decimal → List ℕ
unfolding packed real_text
real_bytes d = 30 ∷ packed (real_text d)

-- whether a number is written as an integer
abbrev pub as_integer : Decimal → Bool
as_integer d = pick (eqb d.down 0) (ltb (trunc_of d) 2147483647) false

-- the bytes of a number
unfoldable pub number_bytes : Decimal → List ℕ
unfolding int_bytes real_bytes trunc_of
number_bytes d = pick (as_integer d) (int_bytes d.neg (trunc_of d)) (real_bytes d)
