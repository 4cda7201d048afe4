-- The f32 nearest to n / 65536 is keep24 n / 65536, and stands for it.
use Rattle.std.specs.Prelude.{◌≡◌, refl, ◌⊎◌, Bool, true, false, leb, ltb, ℤ, pos, negsuc, neg_ℤ, Float}
use Rattle.std.proofs.Common.{sym, ap, ◌∙◌, subst, inl, inr, mul-one, one-mul, mul_comm, mul_assoc, mul_left_comm, mul_right_comm, mul-pos, zero-lt-suc, le_trans, le_of_eq, lt_of_lt_of_le, lt_of_le_of_lt, lt_of_not-le, not-le_of_lt, mul-le-mul_right, mul-div_cancel, div-one, eq-or-lt_of_le, mul-le-mul_left, le-div_iff_mul-le, arith, lit<, pow_pos, pow-add, pow_mono, shl_lt}
use Prim.Native.Nat.{ℕ, zero, suc, ◌+◌, ◌-◌, ◌*◌, ◌/◌, ◌%◌, ◌^◌, ◌≤◌, ◌<◌, compare}
use Rattle.std.proofs.Math.Nat.{eq_of_mul-eq-mul_right, mod-one}
use Rattle.std.proofs.Math.Decide.{dec_lt}
use Rattle.std.specs.Float.{nan, inf, fin, binary32}
use Rattle.std.specs.Float.Ieee.{up, down, size, nearest, round, units}
use Rattle.std.specs.Float.Ieee.Digits.{size-lt, size-le, size_reaches}
use Rattle.std.specs.Float.Ieee.Fits.{round_is, round-fits, core, nearest-le, kept-lt}
use Rattle.std.specs.Float.Ieee.Exact.{HasValue, round_exact, units_val}
use Rattle.std.specs.Float.Ieee.Nearest.{closest, closest_same, nearest-ge}
use Rattle.octets.specs.Pick.{pick}
use Rattle.type2_number.specs.Number.{mag, keep24, rounded, diff, fixed}
use Rattle.type2_number.specs.Floats.{float_of}
use Rattle.type2_number.specs.FloatLaws.{float_of_pos, float_of-neg, fixed-val}
use Rattle.type2_number.specs.Unique.{unique}

-- from one fraction to another of the same size
pub rescale : (x : Float) (s : Bool) (w l num den : ℕ) → 0 < l → num * l ≡ w * den → HasValue x s w l → HasValue x s num den
rescale nan s w l num den p h v = v
rescale (inf t) s w l num den p h v = v
rescale (fin t m e) s w l num den p h v = (
  v.0,
  eq_of_mul-eq-mul_right l p (m * up e * den) (num * down e)
      (mul_right_comm (m * up e) den l
      ∙ ap (λ (x : ℕ). x * den) v.1
      ∙ mul_right_comm w (down e) den
      ∙ ap (λ (x : ℕ). x * down e) (sym h)
      ∙ mul_right_comm num l (down e)),
)

-- ---- how many digits n * 2 ^ t has
size_gt : (n j : ℕ) → 2 ^ j ≤ n → j < size n
size_gt n j h = lt_of_not-le (λ (g : size n ≤ j). not-le_of_lt (lt_of_lt_of_le (size-lt n) (pow_mono g)) h)

join : (z t x : ℕ) → 0 < z → x ≤ z + t → z - 1 + t < x → x ≡ z + t
join z t x Z a b = omega arith

pred_lt : (z : ℕ) → 0 < z → z - 1 < z
pred_lt z h = omega arith

size-shift : (n t : ℕ) → 0 < size n → size (n * 2 ^ t) ≡ size n + t
size-shift n t Z =
    let z = size n in
    let lo : 2 ^ (z - 1 + t) ≤ n * 2 ^ t = le_trans (le_of_eq (pow-add 2 (z - 1) t)) (mul-le-mul_right (2 ^ t) (size_reaches n (z - 1) (pred_lt z Z))) in
    join z t (size (n * 2 ^ t)) Z (size-le (n * 2 ^ t) (z + t) (shl_lt z t (size-lt n))) (size_gt (n * 2 ^ t) (z - 1 + t) lo)

units_in : (n : ℕ) → n * 2 ^ 149 / 65536 ≡ n * 2 ^ 133
units_in n = ap (λ (z : ℕ). z / 65536) (sym (mul_assoc n (2 ^ 133) 65536)) ∙ mul-div_cancel (n * 2 ^ 133) (lit< tt)

-- ---- keep24
abbrev unit : ℕ → ℕ
unit n = 2 ^ (size n - 24)

keep_is : (n : ℕ) → keep24 n ≡ closest n (unit n) * unit n
unfolding keep24
keep_is n = refl

closest-one : (n : ℕ) → closest n 1 ≡ n
closest-one n = ap (λ (z : ℕ). nearest z (compare (n % 1 * 2) 1)) (div-one n) ∙ ap (λ (z : ℕ). nearest n (compare (z * 2) 1)) (mod-one n)

few : (z : ℕ) → z ≤ 24 → z - 24 ≡ 0
few z h = omega arith

pub keep-small : (n : ℕ) → n < 2 ^ 24 → keep24 n ≡ n
keep-small n h = keep_is n ∙ ap (λ (z : ℕ). closest n (2 ^ z) * 2 ^ z) (few (size n) (size-le n 24 h)) ∙ mul-one (closest n 1) ∙ closest-one n

-- q of at most 24 digits, k places up, is a float exactly
scale-eq : (q k : ℕ) → q * 2 ^ k * 2 ^ 149 ≡ q * 2 ^ (k + 133) * 65536
scale-eq q k =
    mul_assoc q (2 ^ k) (2 ^ 149) ∙ ap (λ (z : ℕ). q * z) (sym (mul_assoc (2 ^ k) (2 ^ 133) 65536)) ∙ sym (mul_assoc q (2 ^ k * 2 ^ 133) 65536)
    ∙ ap (λ (z : ℕ). q * z * 65536) (sym (pow-add 2 k 133))

in_range : (q k : ℕ) → q ≤ 2 ^ 24 → k ≤ 16 → q * 2 ^ (k + 133) < 2 ^ 277
in_range q k p r =
    let a : k + 133 ≤ 149 = omega arith in
    lt_of_le_of_lt (le_trans (mul-le-mul_right (2 ^ (k + 133)) p) (mul-le-mul_left (2 ^ 24) (pow_mono a))) (lit< tt)

pub kept-val : (s : Bool) (q k : ℕ) → q ≤ 2 ^ 24 → k ≤ 16 → HasValue (round binary32 s (q * 2 ^ k) 65536) s (q * 2 ^ k) 65536
kept-val s q k p r = go (eq-or-lt_of_le p)
  where
    go : (q ≡ 2 ^ 24) ⊎ (q < 2 ^ 24) → HasValue (round binary32 s (q * 2 ^ k) 65536) s (q * 2 ^ k) 65536
    go (inr l) = round_exact binary32 s (q * 2 ^ k) 65536 q (k + 133) (lit< tt) l (in_range q k p r) (scale-eq q k)
    go (inl e) =
        round_exact binary32 s (q * 2 ^ k) 65536 1 (24 + (k + 133)) (lit< tt) (lit< tt)
        (subst (λ (z : ℕ). z < 2 ^ 277) (ap (λ (z : ℕ). z * 2 ^ (k + 133)) e ∙ sym (pow-add 2 24 (k + 133)) ∙ sym (one-mul (2 ^ (24 + (k + 133))))) (in_range q k p r))
        (scale-eq q k ∙ ap (λ (z : ℕ). z * 2 ^ (k + 133) * 65536) e ∙ ap (λ (z : ℕ). z * 65536) (sym (pow-add 2 24 (k + 133)) ∙ sym (one-mul (2 ^ (24 + (k + 133))))))

-- ---- what `round` keeps of n / 65536
dropped : (n : ℕ) → 2 ^ 24 ≤ n → size (n * 2 ^ 133) - 24 ≡ size n - 24 + 133
dropped n h =
    let g = size_gt n 24 h in
    let e = size-shift n 133 (omega arith) in
    omega arith

same_kept : (n k : ℕ) → closest (n * 2 ^ 149) (65536 * 2 ^ (k + 133)) ≡ closest n (2 ^ k)
same_kept n k =
    closest_same (n * 2 ^ 149) (65536 * 2 ^ (k + 133)) n (2 ^ k) (mul-pos (lit< tt) (pow_pos (k + 133))) (pow_pos k)
    (mul_assoc n (2 ^ 149) (2 ^ k) ∙ ap (λ (z : ℕ). n * z) (mul_comm (2 ^ 149) (2 ^ k) ∙ sym (mul_left_comm 65536 (2 ^ k) (2 ^ 133)) ∙ ap (λ (z : ℕ). 65536 * z) (sym (pow-add 2 k 133))))

round_big : (s : Bool) (n : ℕ) → 2 ^ 24 ≤ n → round binary32 s n 65536 ≡ units binary32 s (closest n (unit n)) (size n - 24 + 133)
round_big s n h =
    round_is binary32 s n 65536
    ∙ ap (λ (z : ℕ). core binary32 s (n * 2 ^ 149) 65536 (size z - 24)) (units_in n)
    ∙ ap (λ (z : ℕ). core binary32 s (n * 2 ^ 149) 65536 z) (dropped n h)
    ∙ ap (λ (z : ℕ). units binary32 s z (size n - 24 + 133)) (same_kept n (size n - 24))

kept-le : (n : ℕ) → closest n (unit n) ≤ 2 ^ 24
kept-le n = le_trans (nearest-le (n / unit n) (compare (n % unit n * 2) (unit n))) (kept-lt 24 n)

pub keep-val : (s : Bool) (n : ℕ) → n < 2 ^ 40 → HasValue (round binary32 s n 65536) s (keep24 n) 65536
keep-val s n b = go (dec_lt n (2 ^ 24))
  where
    go : Dec (n < 2 ^ 24) → HasValue (round binary32 s n 65536) s (keep24 n) 65536
    go (yes h) = rw (keep-small n h) (fixed-val s n h)
    go (no h) =
        let k : size n - 24 ≤ 16 = let z = size-le n 40 b in omega arith in
        let l : 2 ^ 24 ≤ n = omega arith in
        rw (round_big s n l, keep_is)
        (rescale (units binary32 s (closest n (unit n)) (size n - 24 + 133)) s (closest n (unit n) * 2 ^ (size n - 24 + 133)) (2 ^ 149) (closest n (unit n) * unit n) 65536
        (pow_pos 149) (scale-eq (closest n (unit n)) (size n - 24))
        (units_val binary32 s (closest n (unit n)) (size n - 24 + 133) (in_range (closest n (unit n)) (size n - 24) (kept-le n) k)))

pub keep-round : (s : Bool) (n : ℕ) → n < 2 ^ 40 → round binary32 s (keep24 n) 65536 ≡ round binary32 s n 65536
keep-round s n b =
    let k : size n - 24 ≤ 16 = let z = size-le n 40 b in omega arith in
    unique binary32 (round binary32 s (keep24 n) 65536) (round binary32 s n 65536) s (keep24 n) 65536 (lit< tt)
    (round-fits binary32 s (keep24 n) 65536) (round-fits binary32 s n 65536)
    (rw keep_is (kept-val s (closest n (unit n)) (size n - 24) (kept-le n) k))
    (keep-val s n b)

-- ---- the same over signed counts
pub keep_pos : (n : ℕ) → 0 < n → 0 < keep24 n
keep_pos n p = go (dec_lt n (2 ^ 24))
  where
    go : Dec (n < 2 ^ 24) → 0 < keep24 n
    go (yes h) = rw (keep-small n h) p
    go (no h) =
        let g = size_gt n 24 (omega arith) in
        let u : 1 * unit n ≤ n = le_trans (le_of_eq (one-mul (unit n))) (size_reaches n (size n - 24) (omega arith)) in
        let q : 1 ≤ closest n (unit n) = le_trans ((le-div_iff_mul-le (pow_pos (size n - 24))).1 u) (nearest-ge (n / unit n) (compare (n % unit n * 2) (unit n))) in
        rw keep_is (mul-pos q (pow_pos (size n - 24)))

pub rounded-neg : (n : ℕ) → rounded (neg_ℤ (pos n)) ≡ neg_ℤ (pos (keep24 n))
unfolding rounded
rounded-neg zero = refl
rounded-neg (suc n) = refl

pub rounded_pos : (n : ℕ) → rounded (pos n) ≡ pos (keep24 n)
unfolding rounded
rounded_pos n = refl

stands_pos : (n : ℕ) → n < 2 ^ 40 → float_of (rounded (pos n)) ≡ float_of (pos n)
stands_pos n h = rw (rounded_pos, float_of_pos, float_of_pos) (keep-round false n h)

stands_neg : (n : ℕ) → n < 2 ^ 40 → float_of (rounded (neg_ℤ (pos n))) ≡ float_of (neg_ℤ (pos n))
stands_neg zero h = stands_pos 0 h
stands_neg (suc n) h =
    ap float_of (rounded-neg (suc n)) ∙ float_of-neg (keep24 (suc n)) (keep_pos (suc n) (zero-lt-suc n)) ∙ keep-round true (suc n) h ∙ sym (float_of-neg (suc n) (zero-lt-suc n))

-- the f32 that stands for the count of 65536ths a - b stands for the rounded count too
pub stands : (a b : ℕ) → a < 2 ^ 40 → b < 2 ^ 40 → float_of (diff a b) ≡ float_of (rounded (diff a b))
stands a b h k = go (leb b a)
  where
    go : (t : Bool) → float_of (pick t (pos (a - b)) (neg_ℤ (pos (b - a)))) ≡ float_of (rounded (pick t (pos (a - b)) (neg_ℤ (pos (b - a)))))
    go true = sym (stands_pos (a - b) (omega arith))
    go false = sym (stands_neg (b - a) (omega arith))

pub stands_fixed : (h l : ℕ) → h < 65536 → l < 65536 → float_of (fixed h l) ≡ float_of (rounded (fixed h l))
stands_fixed h l p q = stands (h * 65536 + l) (pick (ltb h 32768) 0 4294967296) (omega arith) (go (ltb h 32768))
  where
    go : (t : Bool) → pick t 0 4294967296 < 2 ^ 40
    go true = lit< tt
    go false = lit< tt

pub same_float : (z : ℤ) → mag z < 2 ^ 40 → float_of (rounded z) ≡ float_of z
same_float (pos n) h = stands_pos n h
same_float (negsuc n) h = stands_neg (suc n) h
