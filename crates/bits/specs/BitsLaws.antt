-- The ones below a number are how many numbers below it have their bit.
use Prim.Native.Nat.{ℕ, zero, suc, ◌+◌, ◌*◌, ◌/◌, ◌%◌, ◌^◌, ◌-◌, ◌≤◌, ◌<◌}
use Rattle.std.specs.Prelude.{◌≡◌, Bool, List, eqb}
use Rattle.std.proofs.Math.Path.{refl, ap}
use Rattle.std.proofs.Common.{sym, ◌∙◌, mod-lt, add_comm, one-mul, arith, lit<, pow_pos, shl_exact}
use Rattle.std.proofs.Math.ListN.{get_or}
use Rattle.std.proofs.lemmas.Nat.{mod-pow-add, and_mask, ones_cat}
use Rattle.std.specs.Int.Bits.{bit_and}
use Rattle.std.specs.Int.Count.{ones}
use Rattle.octets.specs.Pick.{pick}
use Rattle.bits.specs.Bits.{count_below, bit_in, whole_ones_lem, ones_below}

-- a digit has as many ones as it is
digit_ones : (d : ℕ) → d < 2 → ones d ≡ d
unfolding ones
digit_ones zero h = refl
digit_ones (suc zero) h = refl
digit_ones (suc (suc d)) h = absurd (omega arith)

digit-pick : (d : ℕ) → d < 2 → pick (eqb d 1) 1 0 ≡ d
digit-pick zero h = refl
digit-pick (suc zero) h = refl
digit-pick (suc (suc d)) h = absurd (omega arith)

-- one digit more
pub ones-digit : (w b : ℕ) → ones (w % 2 ^ (1 + b)) ≡ ones (w % 2 ^ b) + pick (eqb (w / 2 ^ b % 2) 1) 1 0
ones-digit w b =
    let d = w / 2 ^ b % 2 in
    let l : d < 2 = mod-lt (w / 2 ^ b) (lit< tt) in
    let m : w % 2 ^ b < 2 ^ b = mod-lt w (pow_pos b) in
    ap ones (mod-pow-add w 1 b) ∙ ones_cat b d (w % 2 ^ b) m ∙ add_comm (ones d) (ones (w % 2 ^ b))
    ∙ ap (λ (x : ℕ). ones (w % 2 ^ b) + x) (digit_ones d l ∙ sym (digit-pick d l))

none-masked : (w : ℕ) → ones (w % 2 ^ 0) ≡ 0
unfolding ones
none-masked w = let e : w % 2 ^ 0 ≡ 0 = omega arith in ap ones e

module _ (ws : List ℕ) (at : ℕ) (small : (i : ℕ) → get_or ws i 0 < 4294967296) where
  -- one number more
  below_next : (k : ℕ) → ones_below ws at (suc k) ≡ ones_below ws at k + pick (bit_in ws at k) 1 0
  unfolding whole_ones_lem
  below_next k = go (suc k % 32) refl
    where
      w : ℕ
      w = get_or ws (at + k / 32) 0

      go : (r : ℕ) → suc k % 32 ≡ r → ones_below ws at (suc k) ≡ ones_below ws at k + pick (bit_in ws at k) 1 0
      go zero e =
          let a : suc k / 32 ≡ suc (k / 32) = omega arith in
          let b : k % 32 ≡ 31 = omega arith in
          let whole : w % 4294967296 ≡ w = let s = small (at + k / 32) in omega arith in
          let d : ones w ≡ ones (w % 2 ^ 31) + pick (eqb (w / 2 ^ 31 % 2) 1) 1 0 = ap ones (sym whole) ∙ ones-digit w 31 in
          rw (a, e, b, none-masked, d) (omega arith)
      go (suc r) e =
          let a : suc k / 32 ≡ k / 32 = omega arith in
          let b : suc k % 32 ≡ 1 + k % 32 = omega arith in
          rw (a, b, ones-digit w (k % 32)) (omega arith)

  -- the ones below a number are how many numbers below it have their bit
  pub below_is : (k : ℕ) → ones_below ws at k ≡ count_below (bit_in ws at) k
  unfolding count_below whole_ones_lem
  below_is zero = let e = none-masked (get_or ws (at + 0) 0) in omega (arith, e)
  below_is (suc k) = below_next k ∙ ap (λ (n : ℕ). n + pick (bit_in ws at k) 1 0) (below_is k)

  -- so are those of whole words
  pub whole_is : (q : ℕ) → whole_ones_lem ws at q ≡ count_below (bit_in ws at) (32 * q)
  whole_is q =
      let a : 32 * q / 32 ≡ q = omega arith in
      let b : 32 * q % 32 ≡ 0 = omega arith in
      let c : ones_below ws at (32 * q) ≡ whole_ones_lem ws at q + 0
      = ap (λ (i : ℕ). whole_ones_lem ws at i + ones (get_or ws (at + i) 0 % 2 ^ (32 * q % 32))) a
      ∙ ap (λ (i : ℕ). whole_ones_lem ws at q + ones (get_or ws (at + q) 0 % 2 ^ i)) b ∙ ap (λ (n : ℕ). whole_ones_lem ws at q + n) (none-masked (get_or ws (at + q) 0)) in
      omega (arith, c, below_is (32 * q))

-- whole words, and others behind them
pub whole-more : (ws : List ℕ) (at f d : ℕ) → whole_ones_lem ws at (f + d) ≡ whole_ones_lem ws at f + whole_ones_lem ws (at + f) d
unfolding whole_ones_lem
whole-more ws at f zero = let e : f + 0 ≡ f = omega arith in let g : whole_ones_lem ws at (f + 0) ≡ whole_ones_lem ws at f = ap (whole_ones_lem ws at) e in omega arith
whole-more ws at f (suc d) =
    let e : f + suc d ≡ suc (f + d) = omega arith in
    let g : whole_ones_lem ws at (f + suc d) ≡ whole_ones_lem ws at (f + d) + ones (get_or ws (at + (f + d)) 0) = ap (whole_ones_lem ws at) e in
    let k : at + (f + d) ≡ at + f + d = omega arith in
    let i : ones (get_or ws (at + (f + d)) 0) ≡ ones (get_or ws (at + f + d) 0) = ap (λ (x : ℕ). ones (get_or ws x 0)) k in
    omega (arith, whole-more ws at f d)

-- the ones below a number, of which those of the first words are known
pub below-from : (ws : List ℕ) (at : ℕ) → ((i : ℕ) → get_or ws i 0 < 4294967296) → (k from sum n m : ℕ) → from ≤ k / 32 → sum ≡ count_below (bit_in ws at) (32 * from)
    → n ≡ whole_ones_lem ws (at + from) (k / 32 - from) → m ≡ ones (get_or ws (at + k / 32) 0 % 2 ^ (k % 32)) → sum + n + m ≡ count_below (bit_in ws at) k
below-from ws at small k from sum n m h s w o =
    let e : from + (k / 32 - from) ≡ k / 32 = omega arith in
    let a : whole_ones_lem ws at (from + (k / 32 - from)) ≡ whole_ones_lem ws at (k / 32) = ap (whole_ones_lem ws at) e in
    omega (arith, whole_is ws at small from, whole-more ws at from (k / 32 - from), below_is ws at small k)

pub whole-start : (ws : List ℕ) (at : ℕ) → whole_ones_lem ws at 0 ≡ 0
unfolding whole_ones_lem
whole-start ws at = refl

pub whole-next : (ws : List ℕ) (at q : ℕ) → whole_ones_lem ws at (q + 1) ≡ whole_ones_lem ws at q + ones (get_or ws (at + q) 0)
unfolding whole_ones_lem
whole-next ws at q = let e : q + 1 ≡ suc q = omega arith in ap (whole_ones_lem ws at) e

-- ---- the mask of the digits below one

pub shifted_one : (b : ℕ) → b < 32 → 1 * 2 ^ b % 2 ^ 32 ≡ 2 ^ b
shifted_one b h = shl_exact {a = 1} 1 b 32 (lit< tt) (omega arith) ∙ one-mul (2 ^ b)

pub mask_pos : (b : ℕ) → b < 32 → 1 ≤ 1 * 2 ^ b % 2 ^ 32
mask_pos b h = rw (shifted_one b h) (pow_pos b)

pub masked_is : (w b : ℕ) → b < 32 → bit_and w (1 * 2 ^ b % 2 ^ 32 - 1) ≡ w % 2 ^ b
masked_is w b h = ap (λ (m : ℕ). bit_and w (m - 1)) (shifted_one b h) ∙ and_mask w b

-- ---- counts

-- sets that are the same below n have as many below it
pub count-alike : (set set' : ℕ → Bool) (n : ℕ) → ((k : ℕ) → k < n → set k ≡ set' k) → count_below set n ≡ count_below set' n
unfolding count_below
count-alike set set' zero same = refl
count-alike set set' (suc n) same =
    ap (λ (t : Bool). count_below set n + pick t 1 0) (same n (omega arith))
    ∙ ap (λ (m : ℕ). m + pick (set' n) 1 0) (count-alike set set' n (λ k h. same k (omega arith)))
