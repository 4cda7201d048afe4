-- What a reading (document 01, 'Corners in charstring.rs') is worth: its sign and its count of 65536ths, by a comparison with 0.0 and a product with 65536.0 at f64, both exact.
use Rattle.std.specs.Prelude.{◌≡◌, refl, ℕ, zero, suc, ◌+◌, ◌*◌, ◌/◌, ◌^◌, ◌≤◌, ◌<◌, ◌⊎◌, Bool, true, not, ◌&&◌, T, ltb, ℤ, pos, negsuc, Float}
use Rattle.std.proofs.Common.{sym, ap, ◌∙◌, subst, mul-one, mul-pos, zero-lt-suc, zero-mul, mul-div_cancel, lt_irrefl, eq-zero-or-pos, inl, inr, true≢false, le→leb, lit<, lt-ltb}
use native.Mathlib.Omega.{arith}
use Rattle.std.proofs.Math.Bool.{false}
use Rattle.std.proofs.lemmas.Bool.{false≢true}
use Rattle.std.proofs.Math.Dec.{leb-suc-zero, lit≤}
use Rattle.std.specs.Float.{nan, inf, fin, binary64}
use Rattle.std.specs.Float.Ieee.{binary32, up, down, round, neg, mul, lt, of_int, of_bits, in_unsigned, to_unsigned, in_float, fits, is_nan}
use Rattle.std.specs.Float.Ieee.Fits.{down_pos, and_i, fits_widens}
use Rattle.std.specs.Float.Ieee.Exact.{HasValue}
use Rattle.std.specs.Float.Ieee.Scale.{round_same}
use Rattle.std.specs.Float.Ieee.Order.{round_mono}
use Rattle.std.specs.Float.Ieee.Positive.{first_pos, positive_of_value, values_of_le}
use Rattle.std.specs.Float.Ieee.Back.{unsigned_back}
use Rattle.type2_number.specs.Number.{keep24}
use Rattle.type2_number.specs.Number.{mag, is_neg}
use Rattle.type2_number.specs.Floats.{float_of, signed, scaled_of, HoldsReading}
use Rattle.type2_number.specs.FloatLaws.{float_of_pos, float_of-neg}
use Rattle.type2_number.specs.Rounding.{keep-val, keep_pos}

-- ---- the comparison with 0.0
lt_pos : (x : Float) (a : ℕ) → HasValue x false a 65536 → lt x (of_bits binary32 0) ≡ false
unfolding lt of_bits
lt_pos nan a v = absurd v
lt_pos (inf s) a v = absurd v
lt_pos (fin true m e) a v = absurd (true≢false v.0)
lt_pos (fin false m e) a v = ap (λ (z : ℕ). ltb (m * up e * 1) z) (zero-mul (down e)) ∙ leb-suc-zero (m * up e * 1)

lt-neg : (x : Float) (a : ℕ) → HasValue x true a 65536 → 0 < a → lt x (of_bits binary32 0) ≡ true
unfolding lt of_bits
lt-neg nan a v h = absurd v
lt-neg (inf s) a v h = absurd v
lt-neg (fin false m e) a v h = absurd (false≢true v.0)
lt-neg (fin true m e) a v h =
    let p : 0 < m * up e = first_pos (m * up e) 65536 (subst (λ (z : ℕ). 0 < z) (sym v.1) (mul-pos h (down_pos e))) in
    lt-ltb 0 (m * up e * 1 + 0 * down e) (omega arith)

-- ---- the product with 65536.0 at f64
times : (x : Float) (a : ℕ) → HasValue x false a 65536 → mul binary64 x (of_bits binary64 0x40f0_0000_0000_0000) ≡ round binary64 false a 1
unfolding mul of_bits
times nan a v = absurd v
times (inf s) a v = absurd v
times (fin true m e) a v = absurd (true≢false v.0)
times (fin false m e) a v =
    round_same binary64 false (m * up e * 65536) (down e * 1) a 1 (mul-pos (down_pos e) (lit< tt)) (lit< tt)
    (mul-one (m * up e * 65536) ∙ v.1 ∙ ap (λ (z : ℕ). a * z) (sym (mul-one (down e))))

pub cast : (x : Float) (a : ℕ) → HasValue x false a 65536 → a ≤ 2147483648
    → T (in_unsigned binary64 64 (mul binary64 x (of_bits binary64 0x40f0_0000_0000_0000))) × (to_unsigned 64 (mul binary64 x (of_bits binary64 0x40f0_0000_0000_0000)) ≡ a)
unfolding of_int in_float
cast x a v h = rw (times x a v) (unsigned_back binary64 64 a (le→leb a (2 ^ 53) (omega arith)) (omega arith))

pub neg_value : (x : Float) (a : ℕ) → HasValue x true a 65536 → HasValue (neg x) false a 65536
unfolding neg
neg_value nan a v = absurd v
neg_value (inf s) a v = absurd v
neg_value (fin false m e) a v = absurd (false≢true v.0)
neg_value (fin true m e) a v = (refl, v.1)

pub widens : (x : Float) (s : Bool) (a : ℕ) → HasValue x s a 65536 → T (fits binary32 x) → T (fits binary64 x && not (is_nan x))
unfolding is_nan
widens nan s a v t = absurd v
widens (inf u) s a v t = absurd v
widens (fin u m e) s a v t = and_i (fits binary64 (fin u m e)) true (fits_widens (fin u m e) t) tt

-- ---- the count
pub scaled_is : (x : Float) (s : Bool) (a : ℕ) → HasValue x s a 65536 → scaled_of x ≡ signed s a
unfolding scaled_of
scaled_is nan s a v = absurd v
scaled_is (inf t) s a v = absurd v
scaled_is (fin t m e) s a v =
    ap (λ (b : Bool). signed b (m * up e * 65536 / down e)) v.0 ∙ ap (λ (z : ℕ). signed s (z / down e)) v.1 ∙ ap (signed s) (mul-div_cancel a (down_pos e))

pub is-neg : (a : ℕ) → 0 < a → (true ≡ is_neg (signed true a)) × (a ≡ mag (signed true a))
is-neg zero h = absurd (lt_irrefl 0 h)
is-neg (suc a) h = (refl, refl)

-- ---- both ways of a reading
keep-top : keep24 2147483648 ≡ 2147483648
unfolding keep24
keep-top = refl

pub keep-le : (n : ℕ) → n ≤ 2147483648 → keep24 n ≤ 2147483648
keep-le n h = go (eq-zero-or-pos n)
  where
    go : (n ≡ 0) ⊎ (0 < n) → keep24 n ≤ 2147483648
    go (inl e) = rw e (unfold keep24 in lit≤ tt)
    go (inr p) =
        let x = keep-val false n (omega arith) in
        let y = rw keep-top at (keep-val false 2147483648 (lit< tt)) in
        let l : keep24 n * 65536 ≤ 2147483648 * 65536 =
        values_of_le (round binary32 false n 65536) (round binary32 false 2147483648 65536) (keep24 n) 65536 2147483648 65536
        (positive_of_value (round binary32 false n 65536) (keep24 n) 65536 x (keep_pos n p)) (positive_of_value (round binary32 false 2147483648 65536) 2147483648 65536 y (lit< tt)) x y
        (round_mono binary32 n 65536 2147483648 65536 (lit< tt) (lit< tt) (omega arith)) in
        omega arith

pub record Side (x : Float) (s : Bool) : Type 0 where
  pub size : ℕ
  pub value : HasValue x s size 65536
  pub small : size ≤ 2147483648
  pub above : s ≡ true → 0 < size

side-of : (x : Float) (z : ℤ) → x ≡ float_of z → mag z ≤ 2147483648 → Side x (is_neg z)
side-of x (pos n) e h =
    record { size = keep24 n; value = rw (e, float_of_pos n) (keep-val false n (omega arith)); small = keep-le n h; above = λ t. absurd (false≢true t) }
side-of x (negsuc n) e h =
    record { size = keep24 (suc n); value = rw (e, float_of-neg (suc n) (zero-lt-suc n)) (keep-val true (suc n) (omega arith)); small = keep-le (suc n) h; above = λ t. keep_pos (suc n) (zero-lt-suc n) }

test_is : (x : Float) (s : Bool) → Side x s → lt x (of_bits binary32 0) ≡ s
test_is x false r = lt_pos x r.size r.value
test_is x true r = lt-neg x r.size r.value (r.above refl)

pub side : (x : Float) (s : Bool) → HoldsReading x → lt x (of_bits binary32 0) ≡ s → Side x s
side x s r t =
    let k = side-of x r.count r.stands r.small in
    subst (Side x) (sym (test_is x (is_neg r.count) k) ∙ t) k
