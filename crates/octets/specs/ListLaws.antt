-- Laws of lists of numbers: their bounds, their parts, and zeros.
use Rattle.std.specs.Prelude.{ℕ, zero, suc, ◌+◌, ◌-◌, ◌<◌, ◌≡◌, refl, true, List, [], ◌∷◌, ltb, length, take, drop, get_or, replicate}
use Rattle.std.proofs.Common.{ap, sym, ◌∙◌, le_of_suc-le-suc, not-suc-le-zero, add-zero, arith, ltb-true, length-drop, get_or-drop}
use Rattle.octets.specs.Lists.{all_below, part_of}
use Rattle.octets.specs.PickLaws.{both_hold}

-- where all are below n, each is
pub below_at : (n : ℕ) (l : List ℕ) → all_below n l ≡ true → (i : ℕ) → i < length l → get_or l i 0 < n
unfolding all_below
below_at n [] e i h = absurd (not-suc-le-zero h)
below_at n (x ∷ xs) e zero h = ltb-true x n (both_hold (ltb x n) (all_below n xs) e).0
below_at n (x ∷ xs) e (suc i) h = below_at n xs (both_hold (ltb x n) (all_below n xs) e).1 i (le_of_suc-le-suc h)

-- the part from a place on that ends so many further
pub span : (s : List ℕ) (start len : ℕ) → take (start + len - start) (drop start s) ≡ part_of s start len
span s start len = let e : start + len - start ≡ len = omega arith in ap (λ (n : ℕ). take n (drop start s)) e

-- zeros hold nothing else
pub zeros-at : (n i : ℕ) → ◌≡◌ {A = ℕ} (get_or (replicate n 0) i 0) 0
zeros-at zero i = refl
zeros-at (suc n) zero = refl
zeros-at (suc n) (suc i) = zeros-at n i

-- what stands at a place, by the bytes that lie there
module _ (b : List ℕ) (at : ℕ) (l : List ℕ) (lies : drop at b ≡ l) where
  pub lies_at : (i : ℕ) → get_or b (at + i) 0 ≡ get_or l i 0
  lies_at i = sym (get_or-drop at b i 0) ∙ ap (λ (k : List ℕ). get_or k i 0) lies

  pub lies_first : get_or b at 0 ≡ get_or l 0 0
  lies_first = ap (λ (k : ℕ). get_or b k 0) (sym (add-zero at)) ∙ lies_at 0

  pub lies_length : length b - at ≡ length l
  lies_length = sym (length-drop at b) ∙ ap length lies
