-- A call's operand (document 01, 'Corners in write.rs'; TN5177, section 4.7): what `operand_of` makes of it calls the subroutine with the new
-- number, and is a reading.
use Rattle.std.specs.Prelude.{ℕ, suc, ◌+◌, ◌-◌, ◌*◌, ◌/◌, ◌%◌, ◌≤◌, ◌<◌, ◌≡◌, refl, Bool, true, false, ltb, ℤ, pos, negsuc, neg_ℤ, None, Option, Some}
use Rattle.std.proofs.Common.{sym, ap, ◌∙◌, subst, arith, lt-ltb, le-leb, eq-eqb, ltb-true}
use Rattle.std.proofs.Math.Decide.{dec_le}
use Rattle.std.specs.Float.{binary32}
use Rattle.std.specs.Float.Ieee.{round}
use Rattle.std.specs.Float.Ieee.Exact.{HasValue}
use Rattle.std.proofs.lemmas.Bool.{lt-leb}
use Rattle.octets.specs.Steps.{and}
use Rattle.octets.specs.Pick.{pick, pick_ind}
use Rattle.type2_number.specs.Number.{keep24, rounded, whole, Reading}
use Rattle.type2_number.specs.Rounding.{kept-val, keep-val, rounded_pos}
use Rattle.type2_number.specs.Readings.{one-count}
use Rattle.charstring.specs.Bias.{bias_of, numbered}
use Rattle.unfold.specs.Unfold.{target_of}
use Rattle.prune.specs.Renumber.{operand_of}
use Rattle.prune.specs.RenumberSteps.{new_of, operand_for}
use Rattle.prune.specs.StepLaws.{zero_one}

-- ---- a whole number stands for itself

keep-whole : (k : ℕ) → k ≤ 32768 → keep24 (k * 65536) ≡ k * 65536
keep-whole k h =
    let v : HasValue (round binary32 false (k * 65536) 65536) false (k * 65536) 65536 = kept-val false k 16 (omega arith) (omega arith) in
    one-count (round binary32 false (k * 65536) 65536) false (keep24 (k * 65536)) (k * 65536) (keep-val false (k * 65536) (omega arith)) v

-- a - b, up from 0 and down
pub whole-up : (a b : ℕ) → b ≤ a → whole a b ≡ pos ((a - b) * 65536)
whole-up a b h =
    let e : a * 65536 - b * 65536 ≡ (a - b) * 65536 = omega arith in
    rw (le-leb (b * 65536) (a * 65536) (omega arith)) (ap pos e)

pub whole-down : (a b m : ℕ) → suc m ≡ (b - a) * 65536 → whole a b ≡ negsuc m
whole-down a b m h =
    let e : b * 65536 - a * 65536 ≡ suc m = omega arith in
    rw (lt-leb (b * 65536) (a * 65536) (omega arith)) (ap (λ (n : ℕ). neg_ℤ (pos n)) e)

-- the count before a count that is not 0
before : (k : ℕ) → 0 < k → (m : ℕ) × (suc m ≡ k * 65536)
before k h = (k * 65536 - 1, omega arith)

reading-up : (k : ℕ) → k ≤ 32768 → Reading (pos (k * 65536))
reading-up k h = record { small = omega arith; kept = rounded_pos (k * 65536) ∙ ap pos (keep-whole k h) }

reading-down : (k m : ℕ) → k ≤ 32768 → suc m ≡ k * 65536 → Reading (negsuc m)
unfolding rounded
reading-down k m h e =
    let f : keep24 (suc m) ≡ suc m = ap keep24 e ∙ keep-whole k h ∙ sym e in
    record { small = omega arith; kept = ap (λ (n : ℕ). neg_ℤ (pos n)) f }

pub whole-reading : (a b : ℕ) → a ≤ b + 32768 → b ≤ a + 32768 → Reading (whole a b)
whole-reading a b h k = go (dec_le b a)
  where
    go : Dec (b ≤ a) → Reading (whole a b)
    go (yes p) = subst Reading (sym (whole-up a b p)) (reading-up (a - b) (omega arith))
    go (no p) =
        let m = before (b - a) (omega arith) in
        subst Reading (sym (whole-down a b m.0 m.1)) (reading-down (b - a) m.0 (omega arith) m.1)

-- ---- what an operand names

-- the subroutine that a new number less the bias names
target_up : (count k : ℕ) → k + bias_of count < count → target_of count (Some (pos (k * 65536))) ≡ Some (k + bias_of count)
unfolding target_of
target_up count k h =
    let q : k * 65536 / 65536 ≡ k = omega arith in
    rw (eq-eqb (k * 65536 % 65536) 0 (omega arith), q, lt-ltb (k + bias_of count) count h)

target-down : (count k m : ℕ) → k ≤ bias_of count → bias_of count - k < count → suc m ≡ k * 65536 → target_of count (Some (negsuc m)) ≡ Some (bias_of count - k)
unfolding target_of
target-down count k m g h e =
    let q : suc m / 65536 ≡ k = omega arith in
    rw (eq-eqb (suc m % 65536) 0 (omega arith), q, le-leb k (bias_of count) g, lt-ltb (bias_of count - k) count h)

target-whole : (count n : ℕ) → n < count → target_of count (Some (whole n (bias_of count))) ≡ Some n
target-whole count n h = go (dec_le (bias_of count) n)
  where
    go : Dec (bias_of count ≤ n) → target_of count (Some (whole n (bias_of count))) ≡ Some n
    go (yes p) =
        let e : n - bias_of count + bias_of count ≡ n = omega arith in
        ap (λ (z : ℤ). target_of count (Some z)) (whole-up n (bias_of count) p) ∙ target_up count (n - bias_of count) (omega arith) ∙ ap Some e
    go (no p) =
        let m = before (bias_of count - n) (omega arith) in
        let e : bias_of count - (bias_of count - n) ≡ n = omega arith in
        ap (λ (z : ℤ). target_of count (Some z)) (whole-down n (bias_of count) m.0 m.1) ∙ target-down count (bias_of count - n) m.0 (omega arith) (omega arith) m.1
        ∙ ap Some e

-- the old number of an operand with a target
target_old : (count : ℕ) (z : ℤ) (i : ℕ) → target_of count (Some z) ≡ Some i → numbered (bias_of count) z ≡ Some i
unfolding target_of
target_old count z i e = go (numbered (bias_of count) z) e
  where
    by : (t : Bool) (k : ℕ) → pick t (Some k) None ≡ Some i → Some k ≡ Some i
    by true k h = h
    by false k h = absurd (zero_one cc)

    go : (o : Option ℕ) → and o (λ (k : ℕ). pick (ltb k count) (Some k) None) ≡ Some i → o ≡ Some i
    go None h = absurd (zero_one cc)
    go (Some k) h = by (ltb k count) k h

-- ---- operand_of

-- the operand that a new number becomes
operand_new : (bias : ℕ) (q : Option ℕ) (y : ℤ) → operand_for bias q ≡ Some y → (n : ℕ) × (q ≡ Some n) × (whole n bias ≡ y)
operand_new bias None y e = absurd (zero_one cc)
operand_new bias (Some n) y e = (n, refl, cc)

new_old : (numbers : ℕ → Option ℕ) (o : Option ℕ) (n : ℕ) → new_of numbers o ≡ Some n → (i : ℕ) × (numbers i ≡ Some n)
new_old numbers None n e = absurd (zero_one cc)
new_old numbers (Some i) n e = (i, e)

near_bias : (count n : ℕ) → n < count → count < 65536 → (n ≤ bias_of count + 32768) × (bias_of count ≤ n + 32768)
near_bias count n h k =
    pick_ind (λ (b : ℕ). (n ≤ b + 32768) × (b ≤ n + 32768)) (ltb count 1240) 107 (pick (ltb count 33900) 1131 32768)
    (λ t. let l = ltb-true count 1240 t in omega arith)
    (λ t. pick_ind (λ (b : ℕ). (n ≤ b + 32768) × (b ≤ n + 32768)) (ltb count 33900) 1131 32768 (λ u. let l = ltb-true count 33900 u in omega arith) (λ u. omega arith))

module _ (numbers : ℕ → Option ℕ) (count count' : ℕ) (below : (i n : ℕ) → numbers i ≡ Some n → n < count') (z y : ℤ)
    (e : operand_of numbers (bias_of count) (bias_of count') z ≡ Some y) where
  -- the new operand calls the subroutine that has the new number of the old one
  pub operand_target : (i : ℕ) → target_of count (Some z) ≡ Some i → (n : ℕ) × (target_of count' (Some y) ≡ Some n) × (numbers i ≡ Some n)
  operand_target i f =
      let g : operand_for (bias_of count') (numbers i) ≡ Some y = ap (λ (o : Option ℕ). operand_for (bias_of count') (new_of numbers o)) (sym (target_old count z i f)) ∙ e in
      let q = operand_new (bias_of count') (numbers i) y g in
      (q.0, ap (λ (x : ℤ). target_of count' (Some x)) (sym q.2) ∙ target-whole count' q.0 (below i q.0 q.1), q.1)

  -- and is a reading
  pub operand_reading : count' < 65536 → Reading y
  operand_reading h =
      let q = operand_new (bias_of count') (new_of numbers (numbered (bias_of count) z)) y e in
      let i = new_old numbers (numbered (bias_of count) z) q.0 q.1 in
      let l = near_bias count' q.0 (below i.0 q.0 i.1) h in
      subst Reading q.2 (whole-reading q.0 (bias_of count') l.0 l.1)
