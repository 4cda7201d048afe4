-- Every number that is read is a reading, and a reading is what its f32 stands for.
use Rattle.std.specs.Prelude.{◌≡◌, refl, List, ℕ, zero, suc, ◌+◌, ◌-◌, ◌*◌, ◌≤◌, ◌<◌, Bool, true, false, length, get_or, leb, ltb, eqb, ℤ, pos, negsuc, neg_ℤ, Float}
use Rattle.std.proofs.Common.{sym, ap, ◌∙◌, subst, le_trans, le_of_eq, arith, ltb-true, ltb-false}
use Rattle.std.proofs.Math.Nat.{eq_of_mul-eq-mul_right}
use Rattle.std.specs.Float.{nan, inf, fin, binary32}
use Rattle.std.specs.Float.Ieee.{round, down}
use Rattle.std.specs.Float.Ieee.Exact.{HasValue}
use Rattle.std.specs.Float.Ieee.Fits.{down_pos}
use Rattle.octets.specs.Pick.{pick}
use Rattle.type2_number.specs.Number.{Read, cut, operator, number, number_at, keep24, rounded, diff, whole, fixed, sixteen}
use Rattle.type2_number.specs.Number.{mag, is_neg}
use Rattle.type2_number.specs.Floats.{float_of, scaled_of, signed, HoldsReading}
use Rattle.type2_number.specs.Number.{Reading}
use Rattle.type2_number.specs.FloatLaws.{float_of_pos, float_of-neg}
use Rattle.type2_number.specs.Rounding.{keep-val, keep-round, rounded_pos, rounded-neg, same_float}
use Rattle.type2_number.specs.Counts.{keep-le, scaled_is}

-- one float has one count
pub one-count : (x : Float) (s : Bool) (a b : ℕ) → HasValue x s a 65536 → HasValue x s b 65536 → a ≡ b
one-count nan s a b v w = absurd v
one-count (inf t) s a b v w = absurd v
one-count (fin t m e) s a b v w = eq_of_mul-eq-mul_right (down e) (down_pos e) a b (sym v.1 ∙ w.1)

pub keep-twice : (n : ℕ) → n ≤ 2147483648 → keep24 (keep24 n) ≡ keep24 n
keep-twice n h =
    let l = keep-le n h in
    let v : HasValue (round binary32 false (keep24 n) 65536) false (keep24 (keep24 n)) 65536 = keep-val false (keep24 n) (omega arith) in
    one-count (round binary32 false n 65536) false (keep24 (keep24 n)) (keep24 n)
    (subst (λ (x : Float). HasValue x false (keep24 (keep24 n)) 65536) (keep-round false n (omega arith)) v) (keep-val false n (omega arith))

mag-neg : (n : ℕ) → mag (neg_ℤ (pos n)) ≡ n
mag-neg zero = refl
mag-neg (suc n) = refl

reading_pos : (n : ℕ) → n ≤ 2147483648 → Reading (rounded (pos n))
reading_pos n h = rw rounded_pos (record { small = keep-le n h; kept = rounded_pos (keep24 n) ∙ ap pos (keep-twice n h) })

reading-neg : (n : ℕ) → n ≤ 2147483648 → Reading (rounded (neg_ℤ (pos n)))
reading-neg n h =
    rw rounded-neg
    (record { small = le_trans (le_of_eq (mag-neg (keep24 n))) (keep-le n h); kept = rounded-neg (keep24 n) ∙ ap (λ (z : ℕ). neg_ℤ (pos z)) (keep-twice n h) })

pub reading-diff : (a b : ℕ) → a ≤ b + 2147483648 → b ≤ a + 2147483648 → Reading (rounded (diff a b))
reading-diff a b h k = go (leb b a)
  where
    go : (t : Bool) → Reading (rounded (pick t (pos (a - b)) (neg_ℤ (pos (b - a)))))
    go true = reading_pos (a - b) (omega arith)
    go false = reading-neg (b - a) (omega arith)

reading-sixteen : (n : ℕ) → n < 65536 → Reading (rounded (sixteen n))
reading-sixteen n h = go (ltb n 32768) (ltb-true n 32768) (ltb-false n 32768)
  where
    go : (t : Bool) → (t ≡ true → n < 32768) → (t ≡ false → 32768 ≤ n) → Reading (rounded (whole n (pick t 0 65536)))
    go true p q = let l = p refl in reading-diff (n * 65536) 0 (omega arith) (omega arith)
    go false p q = let l = q refl in reading-diff (n * 65536) 4294967296 (omega arith) (omega arith)

pub reading-fixed : (h l : ℕ) → h < 65536 → l < 65536 → Reading (rounded (fixed h l))
reading-fixed h l a b = go (ltb h 32768) (ltb-true h 32768) (ltb-false h 32768)
  where
    go : (t : Bool) → (t ≡ true → h < 32768) → (t ≡ false → 32768 ≤ h) → Reading (rounded (diff (h * 65536 + l) (pick t 0 4294967296)))
    go true p q = let m = p refl in reading-diff (h * 65536 + l) 0 (omega arith) (omega arith)
    go false p q = let m = q refl in reading-diff (h * 65536 + l) 4294967296 (omega arith) (omega arith)

-- of what stands at a position: its number, if it is one, is a reading
abbrev pub ReadingRead : Read → Type 0
ReadingRead cut = Unit
ReadingRead operator = Unit
ReadingRead (number z n) = Reading z

either : (t : Bool) (x y : Read) → ReadingRead x → ReadingRead y → ReadingRead (pick t x y)
either true x y p q = p
either false x y p q = q

pub reading-at : (s : List ℕ) (at : ℕ) → ((i : ℕ) → get_or s i 0 < 256) → ReadingRead (number_at s at)
unfolding number_at
reading-at s at b =
    let v = get_or s at 0 in
    let b0 = b at in
    let b1 = b (at + 1) in
    let b2 = b (at + 2) in
    let b3 = b (at + 3) in
    let b4 = b (at + 4) in
    either (ltb v 32) _ _
    (either (eqb v 28) _ _ (either (ltb (length s - at) 3) _ _ tt (reading-sixteen (get_or s (at + 1) 0 * 256 + get_or s (at + 2) 0) (omega arith))) tt)
    (either (ltb v 247) _ _ (reading-diff (v * 65536) (139 * 65536) (omega arith) (omega arith))
    (either (ltb v 255) _ _
    (either (ltb v 251) _ _ (either (ltb (length s - at) 2) _ _ tt (reading-diff (((v - 247) * 256 + get_or s (at + 1) 0 + 108) * 65536) 0 (omega arith) (omega arith)))
    (either (ltb (length s - at) 2) _ _ tt (reading-diff 0 (((v - 251) * 256 + get_or s (at + 1) 0 + 108) * 65536) (omega arith) (omega arith))))
    (either (ltb (length s - at) 5) _ _ tt (reading-fixed (get_or s (at + 1) 0 * 256 + get_or s (at + 2) 0) (get_or s (at + 3) 0 * 256 + get_or s (at + 4) 0) (omega arith) (omega arith)))))

-- ---- and back from the f32
value_of : (z : ℤ) → mag z ≤ 2147483648 → HasValue (float_of z) (is_neg z) (keep24 (mag z)) 65536
value_of (pos n) h = rw (float_of_pos n) (keep-val false n (omega arith))
value_of (negsuc n) h = rw (float_of-neg (suc n) (lit_pos n)) (keep-val true (suc n) (omega arith))
  where
    lit_pos : (n : ℕ) → 0 < suc n
    lit_pos n = omega arith

signed_is : (z : ℤ) → signed (is_neg z) (keep24 (mag z)) ≡ rounded z
unfolding rounded
signed_is (pos n) = refl
signed_is (negsuc n) = refl

pub back : (z : ℤ) → mag z ≤ 2147483648 → scaled_of (float_of z) ≡ rounded z
back z h = scaled_is (float_of z) (is_neg z) (keep24 (mag z)) (value_of z h) ∙ signed_is z

-- a reading and its f32 stand for each other
pub back-reading : (z : ℤ) → Reading z → scaled_of (float_of z) ≡ z
back-reading z h = back z h.small ∙ h.kept

pub holds : (z : ℤ) → Reading z → HoldsReading (float_of z)
holds z h = record { count = z; stands = refl; small = h.small }

-- and an f32 that holds a reading is the one of its count
pub held_back : (x : Float) → HoldsReading x → float_of (scaled_of x) ≡ x
held_back x h =
    ap (λ (y : Float). float_of (scaled_of y)) h.stands ∙ ap float_of (back h.count h.small) ∙ same_float h.count (omega (arith, h.small)) ∙ sym h.stands
