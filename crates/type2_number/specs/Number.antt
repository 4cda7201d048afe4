-- A number of a Type 2 charstring, TN5177, section 3.2 and table 1, and its reading (document 01, 'Corners in charstring.rs'): a
-- signed count of 65536ths, rounded to 24 significant binary digits, ties to even. Numbers only, no floats.
use Prim.Native.Nat.{ℕ, suc, ◌+◌, ◌-◌, ◌*◌, ◌/◌, ◌%◌, ◌^◌, ◌≤◌, compare}
use Rattle.std.specs.Prelude.{◌≡◌, Bool, true, false, List, length, get_or, ltb, leb, eqb, ℤ, pos, negsuc, neg_ℤ}
use Rattle.std.specs.Float.Ieee.{size, nearest}
use Rattle.octets.specs.Pick.{pick}

-- a - b
abbrev pub diff : ℕ → ℕ → ℤ
diff a b = pick (leb b a) (pos (a - b)) (neg_ℤ (pos (b - a)))

abbrev pub mag : ℤ → ℕ
mag (pos n) = n
mag (negsuc n) = suc n

abbrev pub is_neg : ℤ → Bool
is_neg (pos n) = false
is_neg (negsuc n) = true

-- n to its 24 leading binary digits: what is cut off rounds up above a half, and at a half where the last digit kept is odd
unfoldable pub keep24 : ℕ → ℕ
unfolding size
keep24 n = let u = 2 ^ (size n - 24) in nearest (n / u) (compare (n % u * 2) u) * u

unfoldable pub rounded : ℤ → ℤ
unfolding keep24
rounded (pos n) = pos (keep24 n)
rounded (negsuc n) = neg_ℤ (pos (keep24 (suc n)))

-- the integer a - b, in 65536ths
abbrev pub whole : ℕ → ℕ → ℤ
whole a b = diff (a * 65536) (b * 65536)

-- the signed 16.16 with the halves h and l: h counts from -32768
abbrev pub fixed : ℕ → ℕ → ℤ
fixed h l = diff (h * 65536 + l) (pick (ltb h 32768) 0 4294967296)

-- the signed 16-bit integer with the bits n, in 65536ths
abbrev pub sixteen : ℕ → ℤ
sixteen n = whole n (pick (ltb n 32768) 0 65536)

-- what stands at a position: a number that the end cuts off, an operator, or a number's reading and the position after it
pub data Read : Type 0 where
  cut : Read
  operator : Read
  number : ℤ → ℕ → Read

-- the number z of n bytes at `at`, if that many bytes are there
abbrev pub taken : List ℕ → ℕ → ℕ → ℤ → Read
taken s at n z = pick (ltb (length s - at) n) cut (number (rounded z) (at + n))

-- by the first byte: 28 and two bytes; below 32 an operator; 32 to 246 by itself; 247 to 250 and 251 to 254 with one byte more;
-- 255 and a 16.16
unfoldable pub number_at : List ℕ → ℕ → Read
unfolding rounded
number_at s at =
    let v = get_or s at 0 in
    let b = get_or s (at + 1) 0 in
    pick (ltb v 32)
    (pick (eqb v 28) (taken s at 3 (sixteen (b * 256 + get_or s (at + 2) 0))) operator)
    (pick (ltb v 247) (number (rounded (whole v 139)) (at + 1))
    (pick (ltb v 255)
    (pick (ltb v 251) (taken s at 2 (whole ((v - 247) * 256 + b + 108) 0)) (taken s at 2 (whole 0 ((v - 251) * 256 + b + 108))))
    (taken s at 5 (fixed (b * 256 + get_or s (at + 2) 0) (get_or s (at + 3) 0 * 256 + get_or s (at + 4) 0)))))

-- what a reading is: a count from -2 ^ 31 to 2 ^ 31 that rounding leaves as it is
pub record Reading (z : ℤ) : Type 0 where
  pub small : mag z ≤ 2147483648
  pub kept : rounded z ≡ z
