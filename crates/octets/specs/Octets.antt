-- Big-endian numbers in a list of bytes (TN5176, section 3: multi-byte numeric data is stored with the high byte first), and a
-- list of bytes after others were written into it.
use Rattle.std.specs.Prelude.{ℕ, zero, suc, ◌+◌, ◌*◌, ◌/◌, ◌%◌, ◌<◌, ◌≡◌, List, [], ◌∷◌, ◌++◌, length, take, drop, get_or}

-- every element is a byte
abbrev pub Octets : List ℕ → Type 0
Octets b = (i : ℕ) → get_or b i 0 < 256

-- the number whose digits to the base 256 are a and then the list
unfoldable pub be : ℕ → List ℕ → ℕ
be a [] = a
be a (x ∷ xs) = be (a * 256 + x) xs

-- the big-endian number in the n bytes from p on
unfoldable pub num_at : List ℕ → ℕ → ℕ → ℕ
num_at b p n = be 0 (take n (drop p b))

-- the low n bytes of v, big-endian
unfoldable pub bytes_of : ℕ → ℕ → List ℕ
bytes_of zero v = []
bytes_of (suc n) v = bytes_of n (v / 256) ++ (v % 256 ∷ [])

-- what old holds once bs is written into it from at on
unfoldable pub put : List ℕ → ℕ → List ℕ → List ℕ
put old at bs = take at old ++ (bs ++ drop (at + length bs) old)

-- bs was written from at on: what the slice held before and after it, and the place behind
pub record Wrote (old : List ℕ) (at : ℕ) (bs new : List ℕ) (next : ℕ) : Type 0 where
  pub is : new ≡ put old at bs
  pub behind : next ≡ at + length bs
