-- Laws of big-endian numbers, and that a number written reads back.
use Rattle.std.specs.Prelude.{ℕ, zero, suc, ◌+◌, ◌*◌, ◌/◌, ◌^◌, ◌≤◌, ◌<◌, ◌≡◌, refl, List, [], ◌∷◌, ◌++◌, length, take, drop, get_or}
use Rattle.std.proofs.Common.{sym, ap, ◌∙◌, subst, pow-suc, lt_of_lt_of_le, div-add-mod', div-lt_iff_lt-mul, add-zero, add-one, arith, lit<, length-append, length-drop, take-suc, get_or-drop, take_at, drop_at}
use Rattle.std.proofs.Math.Nat.{pow-le-pow_right}
use Rattle.octets.specs.Octets.{be, num_at, bytes_of}

pub be_snoc : (a : ℕ) (xs : List ℕ) (x : ℕ) → be a (xs ++ (x ∷ [])) ≡ be a xs * 256 + x
unfolding be
be_snoc a [] x = refl
be_snoc a (y ∷ ys) x = be_snoc (a * 256 + y) ys x

-- no byte: the number is 0
pub num-none : (b : List ℕ) (p : ℕ) → 0 ≡ num_at b p 0
unfolding num_at be
num-none b p = refl

-- one byte more
pub num-more : (b : List ℕ) (p i : ℕ) → p + i < length b → num_at b p (i + 1) ≡ num_at b p i * 256 + get_or b (p + i) 0
unfolding num_at
num-more b p i h =
    let k : i < length (drop p b) = rw length-drop (omega arith) in
    rw (add-one, take-suc (drop p b) i 0, be_snoc, get_or-drop)

-- the fixed widths
pub num-one : (b : List ℕ) (p : ℕ) → p < length b → num_at b p 1 ≡ get_or b p 0
num-one b p h = num-more b p 0 (omega arith) ∙ rw (add-zero, ← num-none b p) (omega arith)

pub num-two : (b : List ℕ) (p : ℕ) → p + 2 ≤ length b → num_at b p 2 ≡ get_or b p 0 * 256 + get_or b (p + 1) 0
num-two b p h = num-more b p 1 (omega arith) ∙ omega (arith, num-one b p (omega arith))

pub num-three : (b : List ℕ) (p : ℕ) → p + 3 ≤ length b → num_at b p 3 ≡ (get_or b p 0 * 256 + get_or b (p + 1) 0) * 256 + get_or b (p + 2) 0
num-three b p h = num-more b p 2 (omega arith) ∙ omega (arith, num-two b p (omega arith))

pub num-four : (b : List ℕ) (p : ℕ) → p + 4 ≤ length b
    → num_at b p 4 ≡ ((get_or b p 0 * 256 + get_or b (p + 1) 0) * 256 + get_or b (p + 2) 0) * 256 + get_or b (p + 3) 0
num-four b p h = num-more b p 3 (omega arith) ∙ omega (arith, num-three b p (omega arith))

-- a width that is one of them
pub num_width : (b : List ℕ) (p n k v : ℕ) → n ≡ k → v ≡ num_at b p k → v < 256 ^ k → (v ≡ num_at b p n) × (v < 256 ^ n)
num_width b p n k v e a h = (a ∙ ap (num_at b p) (sym e), subst (λ (m : ℕ). v < 256 ^ m) (sym e) h)

-- a number of fewer digits
pub pow_below : (v i n : ℕ) → i ≤ n → v < 256 ^ i → v < 256 ^ n
pow_below v i n h hv = lt_of_lt_of_le hv (pow-le-pow_right (lit< tt) h)

-- the bytes of a number: how many, and that they read back
pub length-bytes : (n v : ℕ) → length (bytes_of n v) ≡ n
unfolding bytes_of
length-bytes zero v = refl
length-bytes (suc n) v = rw (length-append, length-bytes n) (add-one n)

pub be-bytes : (n v : ℕ) → v < 256 ^ n → be 0 (bytes_of n v) ≡ v
unfolding bytes_of be
be-bytes zero v h = omega arith
be-bytes (suc n) v h =
    let k : v / 256 < 256 ^ n = (div-lt_iff_lt-mul (lit< tt)).1 (rw pow-suc at h) in
    rw (be_snoc, be-bytes n (v / 256) k) (div-add-mod' v 256)

pub be-front : (n v : ℕ) (rest : List ℕ) → v < 256 ^ n → be 0 (take n (bytes_of n v ++ rest)) ≡ v
be-front n v rest h = rw (take_at (bytes_of n v) rest n (length-bytes n v)) (be-bytes n v h)

pub drop-front : (n v : ℕ) (rest : List ℕ) → drop n (bytes_of n v ++ rest) ≡ rest
drop-front n v rest = drop_at (bytes_of n v) rest n (length-bytes n v)

-- a number that stands at a place reads back
pub num-written : (b : List ℕ) (at n v : ℕ) (rest : List ℕ) → v < 256 ^ n → drop at b ≡ bytes_of n v ++ rest → num_at b at n ≡ v
unfolding num_at
num-written b at n v rest h lies = rw lies (be-front n v rest h)
