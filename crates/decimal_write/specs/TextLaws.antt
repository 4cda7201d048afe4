-- Laws of the text of a real: its widths, its digits one by one, and its bytes.
use Prim.Native.Nat.{ℕ, zero, suc, ◌+◌, ◌-◌, ◌*◌, ◌/◌, ◌%◌, ◌^◌, ◌≤◌, ◌<◌}
use Rattle.std.specs.Prelude.{◌≡◌, refl, ◌⊎◌, Bool, true, false, eqb, take, set}
use Rattle.std.proofs.Math.Path.{sym, ap}
use Rattle.std.proofs.Common.{◌∙◌, subst, inl, inr, pow-suc, mul-one, mul-pos, mul_assoc, div-one, div-lt_iff_lt-mul, mul-div_cancel, eq-zero-or-pos, lt_irrefl, not-suc-le-zero, add-zero, div-le_self, pos_of_ne-zero, add-one, arith, lit<, pow-add, lt-ltb, le-ltb, eq-eqb, ne_eqb}
use mathlib.Core.List.{List, [], ◌∷◌, ◌++◌}
use Rattle.std.proofs.Math.Nat.{pow-zero, pow-succ', div-div-eq-div-mul, mul-mod_left, mul-div-mul_right}
use Rattle.std.proofs.Math.Numerals.{lt_of_le_of_ne}
use Rattle.std.proofs.Math.Decide.{dec_lt}
use Rattle.std.proofs.Math.ListN.{length, get_or, length-append, get_or-append, get_or-eq_default}
use Rattle.std.proofs.Math.Seq.{get_or-append-add, get_or_at}
use Rattle.octets.specs.Pick.{pick}
use Rattle.octets.specs.Octets.{put, Wrote}
use Rattle.octets.specs.PutLaws.{put_nil, put_next, put_all}
use Rattle.decimal.specs.declared.Decimal.{Decimal}
use Rattle.decimal.specs.Decimal.{Normal, Reduced}
use Rattle.decimal.specs.DecimalLaws.{ten_pos, one_power, reduced}
use Rattle.decimal.specs.Values.{trunc_of}
use Rattle.decimal.specs.ValuesLaws.{trunc-whole, trunc-fraction}
use Rattle.decimal.specs.Written.{digits_of, width_in, width_of, bare_text, real_text, packed, real_bytes}

-- ---- how many digits

width_one : (k n : ℕ) → n < 10 → width_in k n ≡ 1
unfolding width_in
width_one zero n h = refl
width_one (suc k) n h = rw (lt-ltb n 10 h)

width_suc : (k n : ℕ) → 10 ≤ n → width_in (suc k) n ≡ suc (width_in k (n / 10))
unfolding width_in
width_suc k n h = rw (le-ltb n 10 h)

-- fuel as large as the number is enough
fuel : (k m n : ℕ) → n ≤ k → n ≤ m → width_in k n ≡ width_in m n
fuel zero m n h j = width_one zero n (omega arith) ∙ sym (width_one m n (omega arith))
fuel (suc k) zero n h j = width_one (suc k) n (omega arith) ∙ sym (width_one zero n (omega arith))
fuel (suc k) (suc m) n h j = go (dec_lt n 10) (fuel k m (n / 10))
  where
    go : Dec (n < 10) → (n / 10 ≤ k → n / 10 ≤ m → width_in k (n / 10) ≡ width_in m (n / 10)) → width_in (suc k) n ≡ width_in (suc m) n
    go (yes q) less = width_one (suc k) n q ∙ sym (width_one (suc m) n q)
    go (no q) less = width_suc k n (omega arith) ∙ ap suc (less (omega arith) (omega arith)) ∙ sym (width_suc m n (omega arith))

pub width_digit : (n : ℕ) → n < 10 → width_of n ≡ 1
unfolding width_of
width_digit n h = width_one n n h

pub width_ten : (n : ℕ) → 10 ≤ n → width_of n ≡ suc (width_of (n / 10))
unfolding width_of
width_ten n h =
    let k = n - 1 in
    let e : n ≡ suc k = omega arith in
    ap (λ (f : ℕ). width_in f n) e ∙ width_suc k n h ∙ ap suc (fuel k (n / 10) (n / 10) (omega arith) (omega arith))

-- with zeros behind
pub width_times : (m k : ℕ) → 0 < m → width_of (m * 10 ^ k) ≡ width_of m + k
width_times m zero p = rw (pow-zero, mul-one) (sym (add-zero (width_of m)))
width_times m (suc k) p =
    let q : 0 < m * 10 ^ k = mul-pos p (ten_pos k) in
    let d : m * 10 ^ k * 10 / 10 ≡ m * 10 ^ k = mul-div_cancel (m * 10 ^ k) (lit< tt) in
    rw (pow-suc, ← mul_assoc) (width_ten (m * 10 ^ k * 10) (omega arith) ∙ rw (d, width_times m k p) (omega arith))

-- n has no digit past its width, and a width of at least one
within : (k n : ℕ) → n ≤ k → n < 10 ^ width_in k n
within zero n h = subst (λ (w : ℕ). n < 10 ^ w) (sym (width_one zero n (omega arith))) (omega arith)
within (suc k) n h = go (dec_lt n 10) (within k (n / 10))
  where
    go : Dec (n < 10) → (n / 10 ≤ k → n / 10 < 10 ^ width_in k (n / 10)) → n < 10 ^ width_in (suc k) n
    go (yes q) less = subst (λ (w : ℕ). n < 10 ^ w) (sym (width_one (suc k) n q)) (omega arith)
    go (no q) less =
        let w = width_in k (n / 10) in
        rw (width_suc k n (omega arith), pow-suc) ((div-lt_iff_lt-mul (lit< tt)).0 (less (omega arith)))

pub width_within : (n : ℕ) → n < 10 ^ width_of n
unfolding width_of
width_within n = within n n (omega arith)

pub width_pos : (n : ℕ) → 0 < width_of n
width_pos n = go (dec_lt n 10)
  where
    go : Dec (n < 10) → 0 < width_of n
    go (yes q) = omega (arith, width_digit n q)
    go (no q) = omega (arith, width_ten n (omega arith))

-- no wider than k where it is below 10 ^ k
pub width_below : (k n : ℕ) → n < 10 ^ suc k → width_of n ≤ suc k
width_below zero n h = omega (arith, width_digit n (omega (arith, pow-suc 10 0, pow-zero 10)))
width_below (suc k) n h = go (dec_lt n 10) (width_below k (n / 10))
  where
    go : Dec (n < 10) → (n / 10 < 10 ^ suc k → width_of (n / 10) ≤ suc k) → width_of n ≤ suc (suc k)
    go (yes q) less = omega (arith, width_digit n q)
    go (no q) less =
        let l : n / 10 < 10 ^ suc k = (div-lt_iff_lt-mul (lit< tt)).1 (rw pow-suc at h) in
        omega (arith, width_ten n (omega arith), less l)

-- ---- the digits one by one

pub length_digits : (k n : ℕ) → length (digits_of k n) ≡ k
unfolding digits_of
length_digits zero n = refl
length_digits (suc k) n = rw (length-append, length_digits k (n / 10)) (add-one k)

pub digit_at : (k n i x : ℕ) → i < k → get_or (digits_of k n) i x ≡ n / 10 ^ (k - 1 - i) % 10
unfolding digits_of
digit_at zero n i x h = absurd (not-suc-le-zero h)
digit_at (suc k) n i x h = go (dec_lt i k) (digit_at k (n / 10) i x)
  where
    go : Dec (i < k) → (i < k → get_or (digits_of k (n / 10)) i x ≡ n / 10 / 10 ^ (k - 1 - i) % 10) → get_or (digits_of k (n / 10) ++ (n % 10 ∷ [])) i x ≡ n / 10 ^ (suc k - 1 - i) % 10
    go (yes q) less =
        let j : i < length (digits_of k (n / 10)) = omega (arith, length_digits k (n / 10)) in
        let e : suc k - 1 - i ≡ suc (k - 1 - i) = omega arith in
        get_or-append (digits_of k (n / 10)) (n % 10 ∷ []) x i j ∙ less q
        ∙ ap (λ (m : ℕ). m % 10) (div-div-eq-div-mul n 10 (10 ^ (k - 1 - i)))
        ∙ rw (e, pow-succ')
    go (no q) less =
        let e : length (digits_of k (n / 10)) ≡ i = length_digits k (n / 10) ∙ omega arith in
        let z : suc k - 1 - i ≡ 0 = omega arith in
        get_or_at (digits_of k (n / 10)) (n % 10) [] x i e ∙ rw (z, pow-zero, div-one)

-- ---- the integer part

pub digits_width : (d : Decimal) → Normal d → width_of d.digits ≤ 15
digits_width d h = width_below 14 d.digits h.few

module _ (d : Decimal) (h : Reduced d) where
  pub whole-up : (w : ℕ) → d.down ≡ 0 → w ≡ width_of d.digits → w + d.up ≡ width_of (trunc_of d)
  whole-up w e q = go (eq-zero-or-pos d.digits)
    where
      go : (d.digits ≡ 0) ⊎ (0 < d.digits) → w + d.up ≡ width_of (trunc_of d)
      go (inl o) =
          let u : d.up ≡ 0 = ap (λ (c : Decimal). c.up) (h.last (omega arith)) in
          let t : trunc_of d ≡ d.digits = trunc-whole d e ∙ ap (λ (k : ℕ). d.digits * 10 ^ k) u ∙ rw pow-zero (mul-one d.digits) in
          omega (arith, ap width_of t)
      go (inr p) = rw q (sym (ap width_of (trunc-whole d e) ∙ width_times d.digits d.up p))

  pub whole-down : (n w : ℕ) → (d.down ≡ 0 → ⊥) → n ≡ d.digits / 10 ^ d.down → w ≡ width_of n → w ≡ width_of (trunc_of d)
  whole-down n w e q r = r ∙ ap width_of (q ∙ sym (trunc-fraction d (one_power d h e)))

  pub digit-zero : (k : ℕ) → d.down ≡ 0 → k < d.up → 0 ≡ trunc_of d / 10 ^ k % 10
  digit-zero k e l =
      let j = d.up - k - 1 in
      let u : d.up ≡ suc j + k = omega arith in
      let t : trunc_of d ≡ d.digits * 10 ^ j * 10 * 10 ^ k = trunc-whole d e ∙ ap (λ (n : ℕ). d.digits * 10 ^ n) u ∙ rw (pow-add, pow-suc, ← mul_assoc, ← mul_assoc) in
      rw (t, mul-div_cancel (d.digits * 10 ^ j * 10) (ten_pos k)) (sym (mul-mod_left (d.digits * 10 ^ j) 10))

  pub digit-up : (k q : ℕ) → d.down ≡ 0 → d.up ≤ k → q ≡ d.digits / 10 ^ (k - d.up) → q % 10 ≡ trunc_of d / 10 ^ k % 10
  digit-up k q e l r =
      let u : k ≡ k - d.up + d.up = omega arith in
      let t : trunc_of d / 10 ^ k ≡ d.digits / 10 ^ (k - d.up) =
      ap (λ (n : ℕ). n / 10 ^ k) (trunc-whole d e) ∙ ap (λ (n : ℕ). d.digits * 10 ^ d.up / 10 ^ n) u
      ∙ rw pow-add (mul-div-mul_right d.digits (10 ^ (k - d.up)) (ten_pos d.up)) in
      ap (λ (n : ℕ). n % 10) (r ∙ sym t)

  pub digit-down : (k q : ℕ) → (d.down ≡ 0 → ⊥) → q ≡ d.digits / 10 ^ (d.down + k) → q % 10 ≡ trunc_of d / 10 ^ k % 10
  digit-down k q e r =
      let t : trunc_of d / 10 ^ k ≡ d.digits / 10 ^ (d.down + k) =
      ap (λ (n : ℕ). n / 10 ^ k) (trunc-fraction d (one_power d h e)) ∙ div-div-eq-div-mul d.digits (10 ^ d.down) (10 ^ k) ∙ rw pow-add in
      ap (λ (n : ℕ). n % 10) (r ∙ sym t)

-- at most 15 digits with at most 30 zeros behind them
pub whole_width : (d : Decimal) → Normal d → width_of (trunc_of d) ≤ 45
whole_width d h = go (eq-zero-or-pos d.down)
  where
    go : (d.down ≡ 0) ⊎ (0 < d.down) → width_of (trunc_of d) ≤ 45
    go (inl e) = omega (arith, whole-up d (reduced d h) (width_of d.digits) e refl, digits_width d h, h.high)
    go (inr p) =
        let t : trunc_of d ≡ d.digits / 10 ^ d.down = trunc-fraction d (one_power d (reduced d h) (λ e. omega arith)) in
        let l : trunc_of d ≤ d.digits = rw t (div-le_self d.digits (10 ^ d.down)) in
        let k : trunc_of d < 10 ^ 15 = omega (arith, h.few) in
        omega (arith, width_below 14 (trunc_of d) k)

-- ---- the nibbles one by one

module _ (d : Decimal) (w i : ℕ) (e : w ≡ width_of (trunc_of d)) where
  front : List ℕ
  front = digits_of (width_of (trunc_of d)) (trunc_of d)

  front_length : length front ≡ w
  unfolding front
  front_length = length_digits (width_of (trunc_of d)) (trunc_of d) ∙ sym e

  whole-only : d.down ≡ 0 → bare_text d ≡ front ++ []
  unfolding bare_text front
  whole-only o = rw (eq-eqb d.down 0 o)

  pub with-point : (d.down ≡ 0 → ⊥) → bare_text d ≡ digits_of (width_of (trunc_of d)) (trunc_of d) ++ (10 ∷ digits_of d.down d.digits)
  unfolding bare_text
  with-point o = rw (ne_eqb d.down 0 o)

  pub nibble-before : (r : ℕ) → i < w → r ≡ trunc_of d / 10 ^ (w - 1 - i) % 10 → r ≡ get_or (bare_text d) i 15
  unfolding bare_text front
  nibble-before r l q =
      let j : i < length front = omega (arith, front_length) in
      let m : r ≡ trunc_of d / 10 ^ (width_of (trunc_of d) - 1 - i) % 10 = q ∙ ap (λ (k : ℕ). trunc_of d / 10 ^ (k - 1 - i) % 10) e in
      m ∙ sym (get_or-append front (pick (eqb d.down 0) [] (10 ∷ digits_of d.down d.digits)) 15 i j ∙ digit_at (width_of (trunc_of d)) (trunc_of d) i 15 (omega arith))

  pub nibble-whole : w ≤ i → d.down ≡ 0 → 15 ≡ get_or (bare_text d) i 15
  nibble-whole l o =
      let j : length (front ++ []) ≤ i = omega (arith, length-append front [], front_length) in
      sym (ap (λ (t : List ℕ). get_or t i 15) (whole-only o) ∙ get_or-eq_default (front ++ []) 15 j)

  module _ (o : d.down ≡ 0 → ⊥) where
    pub nibble-point : i ≡ w → 10 ≡ get_or (bare_text d) i 15
    unfolding front
    nibble-point q = sym (ap (λ (t : List ℕ). get_or t i 15) (with-point o) ∙ get_or_at front 10 (digits_of d.down d.digits) 15 i (front_length ∙ sym q))

    -- the digits behind the point
    tail_at : (j : ℕ) → i ≡ w + suc j → get_or (bare_text d) i 15 ≡ get_or (digits_of d.down d.digits) j 15
    unfolding front
    tail_at j q =
        let m : i ≡ length front + suc j = omega (arith, front_length) in
        ap (λ (t : List ℕ). get_or t i 15) (with-point o) ∙ ap (λ (k : ℕ). get_or (front ++ (10 ∷ digits_of d.down d.digits)) k 15) m
        ∙ get_or-append-add front (10 ∷ digits_of d.down d.digits) (suc j) 15

    behind : (j q : ℕ) → i ≡ w + suc j → suc j ≤ d.down → q ≡ d.digits / 10 ^ (d.down - suc j) → q % 10 ≡ get_or (bare_text d) i 15
    behind j q m k r =
        let n : d.down - 1 - j ≡ d.down - suc j = omega arith in
        sym (tail_at j m ∙ digit_at d.down d.digits j 15 k ∙ ap (λ (x : ℕ). d.digits / 10 ^ x % 10) n ∙ ap (λ (x : ℕ). x % 10) (sym r))

    pub nibble-behind : (q : ℕ) → w ≤ i → (i ≡ w → ⊥) → i - w ≤ d.down → q ≡ d.digits / 10 ^ (d.down - (i - w)) → q % 10 ≡ get_or (bare_text d) i 15
    nibble-behind q l n k r =
        let p : w < i = lt_of_le_of_ne l (λ z. n (sym z)) in
        let j = i - w - 1 in
        let m : i - w ≡ suc j = omega arith in
        let u : i ≡ w + suc j = omega arith in
        behind j q u (subst (λ (x : ℕ). x ≤ d.down) m k) (r ∙ ap (λ (x : ℕ). d.digits / 10 ^ (d.down - x)) m)

    pub nibble-past : w ≤ i → (i ≡ w → ⊥) → d.down < i - w → 15 ≡ get_or (bare_text d) i 15
    nibble-past l n k =
        let j = i - w - 1 in
        sym (tail_at j (omega arith) ∙ get_or-eq_default (digits_of d.down d.digits) 15 (omega (arith, length_digits d.down d.digits)))

-- the sign
module _ (d : Decimal) where
  pub text-neg : d.neg ≡ true → real_text d ≡ 14 ∷ bare_text d
  unfolding real_text
  text-neg e = ap (λ (t : Bool). pick t (14 ∷ []) [] ++ bare_text d) e

  pub text_pos : d.neg ≡ false → real_text d ≡ bare_text d
  unfolding real_text
  text_pos e = ap (λ (t : Bool). pick t (14 ∷ []) [] ++ bare_text d) e

  pub nibble-minus : (i : ℕ) → d.neg ≡ true → i ≡ 0 → 14 ≡ get_or (real_text d) i 15
  nibble-minus i e o = rw (text-neg e, o)

  pub nibble-after : (i r : ℕ) → d.neg ≡ true → (i ≡ 0 → ⊥) → r ≡ get_or (bare_text d) (i - 1) 15 → r ≡ get_or (real_text d) i 15
  nibble-after i r e o q =
      let m : i ≡ suc (i - 1) = omega (arith, pos_of_ne-zero o) in
      q ∙ sym (ap (λ (t : List ℕ). get_or t i 15) (text-neg e) ∙ ap (λ (k : ℕ). get_or (14 ∷ bare_text d) k 15) m)

  pub nibble-same : (i r : ℕ) → d.neg ≡ false → r ≡ get_or (bare_text d) i 15 → r ≡ get_or (real_text d) i 15
  nibble-same i r e q = q ∙ sym (ap (λ (t : List ℕ). get_or t i 15) (text_pos e))

  -- ---- lengths
  module _ (w : ℕ) (e : w ≡ width_of (trunc_of d)) where
    bare-whole : d.down ≡ 0 → length (bare_text d) ≡ w
    unfolding front
    bare-whole o = ap length (whole-only d w 0 e o) ∙ length-append (front d w 0 e) [] ∙ omega (arith, front_length d w 0 e)

    bare-part : (d.down ≡ 0 → ⊥) → length (bare_text d) ≡ w + d.down + 1
    bare-part o =
        ap length (with-point d w 0 e o) ∙ length-append (digits_of (width_of (trunc_of d)) (trunc_of d)) (10 ∷ digits_of d.down d.digits)
        ∙ omega (arith, length_digits (width_of (trunc_of d)) (trunc_of d), length_digits d.down d.digits)

    pub length-whole-neg : d.down ≡ 0 → d.neg ≡ true → w + 1 ≡ length (real_text d)
    length-whole-neg o s = omega (arith, ap length (text-neg s), bare-whole o)

    pub length-whole_pos : d.down ≡ 0 → d.neg ≡ false → w ≡ length (real_text d)
    length-whole_pos o s = omega (arith, ap length (text_pos s), bare-whole o)

    pub length-part-neg : (d.down ≡ 0 → ⊥) → d.neg ≡ true → w + d.down + 2 ≡ length (real_text d)
    length-part-neg o s = omega (arith, ap length (text-neg s), bare-part o)

    pub length-part_pos : (d.down ≡ 0 → ⊥) → d.neg ≡ false → w + d.down + 1 ≡ length (real_text d)
    length-part_pos o s = omega (arith, ap length (text_pos s), bare-part o)

-- ---- two nibbles to a byte

pub length-packed : (l : List ℕ) → length (packed l) ≡ length l / 2 + 1
unfolding packed
length-packed [] = refl
length-packed (x ∷ []) = refl
length-packed (x ∷ y ∷ xs) = omega (arith, length-packed xs)

pub packed-at : (l : List ℕ) (j : ℕ) → j < length (packed l) → get_or (packed l) j 0 ≡ get_or l (2 * j) 15 * 16 + get_or l (2 * j + 1) 15
unfolding packed
packed-at [] zero h = refl
packed-at [] (suc j) h = absurd (lt_irrefl 0 (omega arith))
packed-at (x ∷ []) zero h = refl
packed-at (x ∷ []) (suc j) h = absurd (lt_irrefl 0 (omega arith))
packed-at (x ∷ y ∷ xs) zero h = refl
packed-at (x ∷ y ∷ xs) (suc j) h =
    let a : 2 * suc j ≡ suc (suc (2 * j)) = omega arith in
    let b : 2 * suc j + 1 ≡ suc (suc (2 * j + 1)) = omega arith in
    packed-at xs j (omega arith)
    ∙ sym (ap (λ (k : ℕ). get_or (x ∷ y ∷ xs) k 15 * 16 + get_or (x ∷ y ∷ xs) (2 * suc j + 1) 15) a ∙ ap (λ (k : ℕ). get_or xs (2 * j) 15 * 16 + get_or (x ∷ y ∷ xs) k 15) b)

pub length-real : (d : Decimal) → length (real_bytes d) ≡ length (real_text d) / 2 + 2
unfolding real_bytes
length-real d = omega (arith, length-packed (real_text d))

-- ---- a real as it is written, byte by byte

pub packed-small : (d : Decimal) → Normal d → length (packed (real_text d)) ≤ 100
packed-small d h = go (eq-zero-or-pos d.down) d.neg refl
  where
    w : ℕ
    w = width_of (trunc_of d)

    go : (d.down ≡ 0) ⊎ (0 < d.down) → (s : Bool) → d.neg ≡ s → length (packed (real_text d)) ≤ 100
    go (inl e) true s = omega (arith, length-packed (real_text d), length-whole-neg d w refl e s, whole_width d h)
    go (inl e) false s = omega (arith, length-packed (real_text d), length-whole_pos d w refl e s, whole_width d h)
    go (inr p) true s = omega (arith, length-packed (real_text d), length-part-neg d w refl (λ e. omega arith) s, whole_width d h, h.low)
    go (inr p) false s = omega (arith, length-packed (real_text d), length-part_pos d w refl (λ e. omega arith) s, whole_width d h, h.low)

module _ (d : Decimal) (old : List ℕ) (at : ℕ) (room : at + length (packed (real_text d)) ≤ length old) (out : List ℕ) (i : ℕ)
    (e : out ≡ put old at (take i (packed (real_text d)))) where
  pub packed-next : (a b : ℕ) → i < length (packed (real_text d)) → a ≡ get_or (real_text d) (2 * i) 15 → b ≡ get_or (real_text d) (2 * i + 1) 15
      → set out (at + i) (a * 16 + b) ≡ put old at (take (i + 1) (packed (real_text d)))
  packed-next a b h p q =
      let v : a * 16 + b ≡ get_or (packed (real_text d)) i 0 = omega (arith, packed-at (real_text d) i h) in
      ap (λ (o : List ℕ). set o (at + i) (a * 16 + b)) e ∙ ap (set (put old at (take i (packed (real_text d)))) (at + i)) v
      ∙ put_next old at (packed (real_text d)) i (omega arith) h

  pub packed-wrote : (n : ℕ) → n ≡ length (packed (real_text d)) → n ≤ i → Wrote old at (packed (real_text d)) out (at + n)
  packed-wrote n q h = record { is = e ∙ put_all old at (packed (real_text d)) i (omega arith); behind = omega arith }

pub packed_start : (old : List ℕ) (at : ℕ) (l : List ℕ) → old ≡ put old at (take 0 l)
packed_start old at l = sym (put_nil old at)
