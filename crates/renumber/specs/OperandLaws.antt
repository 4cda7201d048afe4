-- Laws of a call's new operand: by the rank of the subroutine that the old operand names; it is a reading.
use Rattle.std.specs.Prelude.{ℕ, zero, suc, ◌+◌, ◌-◌, ◌*◌, ◌/◌, ◌≤◌, ◌<◌, ◌≡◌, refl, Bool, true, false, List, ltb, eqb, ℤ, None, Option, Some}
use Rattle.std.proofs.Common.{sym, ap, ◌∙◌, subst, div-lt_iff_lt-mul, div-mul-le_self, arith, ltb-true, lt-ltb}
use Rattle.std.proofs.Math.Nat.{lt-div-mul-add}
use Rattle.octets.specs.Pick.{pick, pick_ind}
use Rattle.type2_number.specs.Number.{whole, rounded, Reading}
use Rattle.bits.specs.Bits.{count_below, words_for, bit_in, below, eighth, sum_below, low_sums, sum_in}
use Rattle.bits.specs.BitsLaws.{count-alike}
use Rattle.bits.specs.SumsLaws.{sum_is}
use Rattle.charstring.specs.Bias.{bias_of, numbered}
use Rattle.charstring.specs.BiasLaws.{bias_few}
use Rattle.subset.specs.RankLaws.{count-below}
use Rattle.prune.specs.StepLaws.{zero_one}
use Rattle.prune.specs.Renumber.{operand_of}
use Rattle.prune.specs.RenumberSteps.{new_of, operand_for}
use Rattle.prune.specs.OperandLaws.{operand_reading}
use Rattle.renumber.specs.Ranks.{numbers_in, calls_by, Ranked}
use Rattle.renumber.specs.declared.Ranks.{Ranks}

-- a number below the count is no further from the bias than an integer of 16 bits reaches
pub bias-near : (b count i : ℕ) → b ≡ bias_of count → i < count → count ≤ 65536 → (i ≤ b + 32768) × (b ≤ i + 32768)
bias-near b count i e h k = let s = bias_few b count e in (omega (arith, near), omega arith)
  where
    near : i ≤ b + 32768
    near =
        subst (λ (x : ℕ). i ≤ x + 32768) (sym e)
        (pick_ind (λ (x : ℕ). i ≤ x + 32768) (ltb count 1240) 107 (pick (ltb count 33900) 1131 32768) (λ t. let l = ltb-true count 1240 t in omega arith)
        (λ t. pick_ind (λ (x : ℕ). i ≤ x + 32768) (ltb count 33900) 1131 32768 (λ u. let l = ltb-true count 33900 u in omega arith) (λ u. omega arith)))

-- ---- where all of some numbers are in a set, so are all of the first of them

count_none : (set : ℕ → Bool) → count_below set 0 ≡ 0
unfolding count_below
count_none set = refl

count_next : (set : ℕ → Bool) (n : ℕ) (t : Bool) → set n ≡ t → count_below set (suc n) ≡ count_below set n + pick t 1 0
unfolding count_below
count_next set n t e = ap (λ (u : Bool). count_below set n + pick u 1 0) e

count-least : (set : ℕ → Bool) (a n : ℕ) → count_below set (a + n) ≤ count_below set a + n
unfolding count_below
count-least set a zero = let e : a ≡ a + 0 = omega arith in subst (λ (k : ℕ). count_below set k ≤ count_below set a + 0) e (omega arith)
count-least set a (suc n) =
    let e : suc (a + n) ≡ a + suc n = omega arith in
    subst (λ (k : ℕ). count_below set k ≤ count_below set a + suc n) e (go (set (a + n)) (count-least set a n))
  where
    go : (t : Bool) → count_below set (a + n) ≤ count_below set a + n → count_below set (a + n) + pick t 1 0 ≤ count_below set a + suc n
    go true h = omega arith
    go false h = omega arith

count-whole : (set : ℕ → Bool) (a m n : ℕ) → count_below set (a + n) ≡ count_below set a + n → m ≤ n → count_below set (a + m) ≡ count_below set a + m
count-whole set a m n h l =
    let e : a + m + (n - m) ≡ a + n = omega arith in
    omega (arith, count-least set a m, count-least set (a + m) (n - m), ap (count_below set) e)

-- ---- the rank of a subroutine where all are reached

module _ (ws : List ℕ) (q : Ranks) (good : Ranked ws q) (all : q.reached ≡ q.count) where
  abbrev set : ℕ → Bool
  set = bit_in ws q.at

  kept-number : (i : ℕ) → i ≤ q.count → count_below set i ≡ i
  kept-number i h =
      let n : 0 + q.count ≡ q.count = omega arith in
      let m : 0 + i ≡ i = omega arith in
      let z : 0 + q.count ≡ count_below set 0 + q.count = ap (λ (k : ℕ). k + q.count) (sym (count_none set)) in
      let w : 0 + i ≡ count_below set 0 + i = ap (λ (k : ℕ). k + i) (sym (count_none set)) in
      sym (ap (count_below set) m) ∙ count-whole set 0 i q.count (ap (count_below set) n ∙ sym good.reaches ∙ all ∙ sym n ∙ z) h ∙ sym w ∙ m

  kept-bit : (i : ℕ) → i < q.count → set i ≡ true
  kept-bit i h = go (set i) refl
    where
      go : (t : Bool) → set i ≡ t → set i ≡ true
      go true e = e
      go false e =
          let a = kept-number i (omega arith) in
          let b = kept-number (suc i) (omega arith) in
          absurd (let y : ⊥ = omega (arith, count_next set i false e) in y)

  pub rank-kept : (i : ℕ) → i < q.count → Some i ≡ numbers_in ws q i
  rank-kept i h = rw (lt-ltb i q.count h, kept-bit i h) (ap Some (sym (kept-number i (omega arith))))

-- ---- the rank of a subroutine, from the sum below its eighth

module _ (ws : List ℕ) (q : Ranks) (good : Ranked ws q) (i : ℕ) (h : i < q.count) (n : ℕ) (w : n ≡ words_for q.count) (e : ℕ) (is : e ≡ eighth n) where
  -- the eighth in which it stands
  pub eighth_pos : 0 < e
  eighth_pos = omega arith

  pub eighth-few : i / 32 / e < 8
  eighth-few = (div-lt_iff_lt-mul eighth_pos).1 (omega arith)

  pub eighth-front : i / 32 / e * e ≤ i / 32
  eighth-front = div-mul-le_self (i / 32) e

  abbrev same : ℕ → Bool
  same = below (bit_in ws q.at) q.count

  -- a sum is how many are below its eighth
  sum_told : (k sum : ℕ) → k < 8 → sum ≡ sum_in q.low q.high k → sum ≡ count_below same (32 * (k * e))
  sum_told k sum l f =
      let a : e ≡ eighth (words_for q.count) = is ∙ ap eighth w in
      f ∙ ap (λ (x : ℕ). sum_in x q.high k) good.low ∙ ap (λ (x : ℕ). sum_in (low_sums (bit_in ws q.at) q.count) x k) good.high
      ∙ sum_is (bit_in ws q.at) q.count k good.few l
      ∙ ap (λ (x : ℕ). sum_below (bit_in ws q.at) q.count (k * x)) (sym a)

  -- the bits below the count, counted
  counted : (m : ℕ) → m ≤ q.count → count_below same m ≡ count_below (bit_in ws q.at) m
  counted m l = count-alike same (bit_in ws q.at) m (λ x k. rw (lt-ltb x q.count (omega arith)))

  module _ (sum : ℕ) (f : sum ≡ sum_in q.low q.high (i / 32 / e)) where
    pub sum-front : sum ≡ count_below (bit_in ws q.at) (32 * (i / 32 / e * e))
    sum-front = sum_told (i / 32 / e) sum eighth-few f ∙ counted (32 * (i / 32 / e * e)) (let l = eighth-front in omega arith)

    -- all of the eighth are reached
    pub eighth-whole : i / 32 / e < 7 → (next : ℕ) → next ≡ sum_in q.low q.high (i / 32 / e + 1) → next ≡ sum + 32 * e
        → sum + (i - 32 * (i / 32 / e * e)) ≡ count_below (bit_in ws q.at) i
    eighth-whole l next g all =
        let a = 32 * (i / 32 / e * e) in
        let m = i - a in
        let k : i / 32 < i / 32 / e * e + e = lt-div-mul-add eighth_pos in
        let s : sum ≡ count_below same a = sum_told (i / 32 / e) sum eighth-few f in
        let p : 32 * ((i / 32 / e + 1) * e) ≡ a + 32 * e = omega arith in
        let t : next ≡ count_below same (a + 32 * e) = sum_told (i / 32 / e + 1) next (omega arith) g ∙ ap (count_below same) p in
        let c : count_below same (a + 32 * e) ≡ count_below same a + 32 * e = sym t ∙ all ∙ ap (λ (x : ℕ). x + 32 * e) s in
        let r : a + m ≡ i = let z = eighth-front in omega arith in
        ap (λ (x : ℕ). x + m) s ∙ sym (count-whole same a m (32 * e) c (let z = eighth-front in omega arith)) ∙ ap (count_below same) r ∙ counted i (omega arith)

-- ---- the new number

module _ (ws : List ℕ) (q : Ranks) (good : Ranked ws q) where
  pub number-below : (i n : ℕ) → numbers_in ws q i ≡ Some n → n < q.reached
  number-below i n e = go (ltb i q.count) refl (bit_in ws q.at i) refl e
    where
      go : (t : Bool) → ltb i q.count ≡ t → (u : Bool) → bit_in ws q.at i ≡ u → pick t (pick u (Some (count_below (bit_in ws q.at) i)) None) None ≡ Some n → n < q.reached
      go true t true u f =
          let b = count-below (bit_in ws q.at) i q.count u (ltb-true i q.count t) in
          let g : count_below (bit_in ws q.at) i ≡ n = cc in
          omega (arith, good.reaches)
      go true t false u f = absurd (zero_one cc)
      go false t u v f = absurd (zero_one cc)

  pub operand_reads : (z y : ℤ) → operand_of (numbers_in ws q) (bias_of q.count) (bias_of q.reached) z ≡ Some y → Reading y
  operand_reads z y e = operand_reading (numbers_in ws q) q.count q.reached number-below z y e good.few_reached

  module _ (z : ℤ) (r : Option ℕ) (e : r ≡ new_of (numbers_in ws q) (numbered (bias_of q.count) z)) where
    becomes_by : (x : Option ℕ) → r ≡ x → operand_for (bias_of q.reached) x ≡ operand_of (numbers_in ws q) (bias_of q.count) (bias_of q.reached) z
    becomes_by x f = ap (operand_for (bias_of q.reached)) (sym f ∙ e)

    module _ (n : ℕ) (f : r ≡ Some n) where
      pub rank-small : n < q.reached
      rank-small = go (numbered (bias_of q.count) z) (sym e ∙ f)
        where
          go : (o : Option ℕ) → new_of (numbers_in ws q) o ≡ Some n → n < q.reached
          go None k = absurd (zero_one cc)
          go (Some i) k = number-below i n k

      -- the new number lies near the bias
      pub rank-near : (b : ℕ) → b ≡ bias_of q.reached → (n ≤ b + 32768) × (b ≤ n + 32768)
      rank-near b a = bias-near b q.reached n a rank-small (omega (arith, good.few_reached))

      -- the rank is the new number
      pub operand_some : (b : ℕ) → b ≡ bias_of q.reached → (v : ℤ) → v ≡ rounded (whole n b)
          → Some v ≡ operand_of (numbers_in ws q) (bias_of q.count) (bias_of q.reached) z
      operand_some b a v g =
          let k = becomes_by (Some n) f in
          ap Some (g ∙ ap (λ (c : ℕ). rounded (whole n c)) a ∙ (operand_reads z (whole n (bias_of q.reached)) (sym k)).kept) ∙ k

-- the operands of calls are readings
pub calls-read : (ws : List ℕ) (locals globals : Ranks) → Ranked ws locals → Ranked ws globals → (b : ℕ) (z y : ℤ) → calls_by ws locals globals b z ≡ Some y → Reading y
calls-read ws locals globals l g b z y e = go (eqb b 10) e
  where
    go : (t : Bool) → pick t (operand_of (numbers_in ws locals) (bias_of locals.count) (bias_of locals.reached) z)
        (operand_of (numbers_in ws globals) (bias_of globals.count) (bias_of globals.reached) z) ≡ Some y → Reading y
    go true f = operand_reads ws locals l z y f
    go false f = operand_reads ws globals g z y f
