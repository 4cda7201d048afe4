-- A number written back (document 01, 'Corners in charstring.rs'): an integer of size below 32768 in the shortest form of TN5177,
-- table 1; any other count of 65536ths as `ff` and a 16.16, held at its largest value as the Rust's cast holds it.
use Rattle.std.specs.Prelude.{ℕ, ◌+◌, ◌-◌, ◌/◌, ◌%◌, min, Bool, List, [], ◌∷◌, ltb, leb, eqb, ℤ}
use Rattle.octets.specs.Pick.{pick}
use Rattle.octets.specs.Octets.{bytes_of}
use Rattle.type2_number.specs.Number.{is_neg, mag}

-- the integer v, or -v where s, v below 32768: one byte to 107, two to 1131, else `1c` and two
unfoldable pub integer_bytes : Bool → ℕ → List ℕ
integer_bytes s v =
    pick (leb v 107) (pick s (139 - v) (139 + v) ∷ [])
    (pick (leb v 1131) (((v - 108) / 256 + pick s 251 247) ∷ ((v - 108) % 256) ∷ [])
    (28 ∷ bytes_of 2 (pick s (65536 - v) v)))

-- the 16.16 of n 65536ths, or -n where s: `ff` and four bytes, in two's complement
unfoldable pub fixed_bytes : Bool → ℕ → List ℕ
fixed_bytes s n = 255 ∷ bytes_of 4 (pick s (4294967296 - n) (min n 2147483647))

unfoldable pub number_bytes : Bool → ℕ → List ℕ
unfolding integer_bytes fixed_bytes
number_bytes s n = pick (eqb (n % 65536) 0) (pick (ltb n 2147483648) (integer_bytes s (n / 65536)) (fixed_bytes s n)) (fixed_bytes s n)

-- the bytes of a signed count of 65536ths
abbrev pub encoded : ℤ → List ℕ
encoded z = number_bytes (is_neg z) (mag z)
