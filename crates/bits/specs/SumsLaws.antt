-- Laws of running sums: each is read back from its 16 bits.
use Rattle.std.specs.Prelude.{ℕ, zero, suc, ◌+◌, ◌*◌, ◌-◌, ◌/◌, ◌%◌, ◌^◌, ◌≤◌, ◌<◌, ◌≡◌, refl, Bool, true, false, ltb}
use Rattle.std.proofs.Common.{ap, ◌∙◌, arith, ltb-true, ltb-false}
use Rattle.octets.specs.Pick.{pick}
use Rattle.bits.specs.Bits.{count_below, words_for, below, eighth, four, sum_below, low_sums, high_sums, sum_in}

-- no more are counted below a count than there are numbers
count-within : (set : ℕ → Bool) (count n : ℕ) → (count_below (below set count) n ≤ count) × (count_below (below set count) n ≤ n)
unfolding count_below
count-within set count zero = (omega arith, omega arith)
count-within set count (suc n) = go (ltb n count) refl (set n) (count-within set count n)
  where
    go : (t : Bool) → ltb n count ≡ t → (u : Bool) → (count_below (below set count) n ≤ count) × (count_below (below set count) n ≤ n)
        → (count_below (below set count) n + pick (pick t u false) 1 0 ≤ count) × (count_below (below set count) n + pick (pick t u false) 1 0 ≤ suc n)
    go true e true h = let l = ltb-true n count e in (omega arith, omega arith)
    go true e false h = (omega arith, omega arith)
    go false e u h = (omega arith, omega arith)

-- a number of four
four-at : (f : ℕ → ℕ) → ((m : ℕ) → f m < 65536) → (m e j : ℕ) → j < 4 → four f m e / 2 ^ (16 * j) % 65536 ≡ f (m + j * e)
four-at f small m e j h = go j h
  where
    a : f m < 65536
    a = small m

    b : f (m + e) < 65536
    b = small (m + e)

    c : f (m + 2 * e) < 65536
    c = small (m + 2 * e)

    d : f (m + 3 * e) < 65536
    d = small (m + 3 * e)

    go : (j : ℕ) → j < 4 → four f m e / 2 ^ (16 * j) % 65536 ≡ f (m + j * e)
    go zero h = let q : m ≡ m + 0 * e = omega arith in let r : four f m e / 1 % 65536 ≡ f m = omega (arith, a) in r ∙ ap f q
    go (suc zero) h = let q : m + e ≡ m + 1 * e = omega arith in let r : four f m e / 65536 % 65536 ≡ f (m + e) = omega (arith, a, b) in r ∙ ap f q
    go (suc (suc zero)) h = let r : four f m e / 4294967296 % 65536 ≡ f (m + 2 * e) = omega (arith, a, b, c) in r
    go (suc (suc (suc zero))) h = let r : four f m e / 281474976710656 % 65536 ≡ f (m + 3 * e) = omega (arith, a, b, c, d) in r
    go (suc (suc (suc (suc j)))) h = absurd (omega arith)

-- a sum is how many are below its eighth
pub sum_is : (set : ℕ → Bool) (count j : ℕ) → count < 65536 → j < 8
    → sum_in (low_sums set count) (high_sums set count) j ≡ sum_below set count (j * eighth (words_for count))
sum_is set count j h k = go (ltb j 4) refl
  where
    e : ℕ
    e = eighth (words_for count)

    small : (m : ℕ) → sum_below set count m < 65536
    small m = let w = (count-within set count (32 * m)).0 in omega arith

    go : (t : Bool) → ltb j 4 ≡ t → sum_in (low_sums set count) (high_sums set count) j ≡ sum_below set count (j * eighth (words_for count))
    go true u =
        let q : 0 + j * e ≡ j * e = omega arith in
        rw u (four-at (sum_below set count) small 0 e j (ltb-true j 4 u) ∙ ap (sum_below set count) q)
    go false u =
        let l : 4 ≤ j = ltb-false j 4 u in
        let i = j - 4 in
        let s : j ≡ 4 + i = omega arith in
        let q : 4 * e + i * e ≡ j * e = omega (arith, ap (λ (n : ℕ). n * e) s) in
        rw u (four-at (sum_below set count) small (4 * e) e i (omega arith) ∙ ap (sum_below set count) q)

-- ---- sets that are the same below the count

pub below_alike : (s t : ℕ → Bool) (count : ℕ) → ((k : ℕ) → k < count → s k ≡ t k) → below s count ≡ below t count
below_alike s t count h = λ i. λ k. one k i
  where
    one : (k : ℕ) → below s count k ≡ below t count k
    one k = go (ltb k count) refl
      where
        go : (u : Bool) → ltb k count ≡ u → below s count k ≡ below t count k
        go true e = ap (λ (x : Bool). pick (ltb k count) x false) (h k (ltb-true k count e))
        go false e = rw e

module _ (s t : ℕ → Bool) (count : ℕ) (e : below s count ≡ below t count) where
  pub low_alike : low_sums s count ≡ low_sums t count
  low_alike = ap (λ (b : ℕ → Bool). four (λ m. count_below b (32 * m)) 0 (eighth (words_for count))) e

  pub high-alike : high_sums s count ≡ high_sums t count
  high-alike = ap (λ (b : ℕ → Bool). four (λ m. count_below b (32 * m)) (4 * eighth (words_for count)) (eighth (words_for count))) e
