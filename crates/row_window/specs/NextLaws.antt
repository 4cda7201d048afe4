-- Windows one after the other (document 02, Wish 1): a window that is not full holds all of its range; behind a full one the range goes on with the
-- number after its last key.
use Rattle.std.specs.Prelude.{ℕ, zero, suc, ◌+◌, ◌-◌, ◌≤◌, ◌<◌, ◌≡◌, Bool, length, take, drop, get_or}
use Rattle.std.proofs.Math.Path.{refl}
use Rattle.std.proofs.Common.{sym, ap, ◌∙◌, subst, not-suc-le-zero, arith, lt-ltb, le-ltb, ltb-true, ltb-false, take-append-drop, take_all, length-take-le, get_or-take}
use Rattle.std.proofs.Math.Bool.{true, false}
use mathlib.Core.List.{List, [], ◌∷◌, ◌++◌}
use Rattle.std.proofs.Math.Dec.{ltb}
use Rattle.octets.specs.Pick.{pick}
use Rattle.row_window.specs.Window.{placed, gathered, within, Below, Above, Rising, none, one}
use Rattle.row_window.specs.WindowLaws.{above_at, below_to, below-placed, above-placed, rising-gathered, range_split}

-- ---- a range

-- a range that starts at 0 has all numbers below its end
pub within_all : (high : ℕ) (ks : List ℕ) → Below high ks → within 0 high ks ≡ ks
unfolding within
within_all high [] b = refl
within_all high (k ∷ ks) (one q b) = rw (le-ltb k 0 (omega arith), lt-ltb k high q) (ap (λ (l : List ℕ). k ∷ l) (within_all high ks b))

module _ (low high : ℕ) where
  within-below : (ks : List ℕ) → Below high (within low high ks)
  unfolding within
  within-below [] = none
  within-below (k ∷ ks) = by (ltb k low) (ltb k high) refl (within-below ks)
    where
      by : (t u : Bool) → ltb k high ≡ u → Below high (within low high ks) → Below high (pick (pick t false u) (k ∷ within low high ks) (within low high ks))
      by true u e b = b
      by false true e b = one (ltb-true k high e) b
      by false false e b = b

  within-above : (ks : List ℕ) → Above low (within low high ks)
  unfolding within
  within-above [] = none
  within-above (k ∷ ks) = by (ltb k low) (ltb k high) refl (within-above ks)
    where
      by : (t u : Bool) → ltb k low ≡ t → Above low (within low high ks) → Above low (pick (pick t false u) (k ∷ within low high ks) (within low high ks))
      by true u e b = b
      by false true e b = one (ltb-false k low e) b
      by false false e b = b

pub gathered-below : (mid : ℕ) (c ks : List ℕ) → Below mid c → Below mid ks → Below mid (gathered c ks)
unfolding gathered
gathered-below mid c [] a b = a
gathered-below mid c (k ∷ ks) a (one q b) = gathered-below mid (placed k c) ks (below-placed mid k c q a) b

gathered-above : (mid : ℕ) (c ks : List ℕ) → Above mid c → Above mid ks → Above mid (gathered c ks)
unfolding gathered
gathered-above mid c [] a b = a
gathered-above mid c (k ∷ ks) a (one q b) = gathered-above mid (placed k c) ks (above-placed mid k c q a) b

-- ---- two parts of a list

pub below_at : (mid : ℕ) (l : List ℕ) → Below mid l → (i : ℕ) → i < length l → get_or l i 0 < mid
below_at mid [] b i h = absurd (not-suc-le-zero h)
below_at mid (x ∷ l) (one q b) zero h = q
below_at mid (x ∷ l) (one q b) (suc i) h = below_at mid l b i (omega arith)

-- what follows a number is above it
above-behind : (l : List ℕ) (m : ℕ) → Rising l → m < length l → Above (suc (get_or l m 0)) (drop (suc m) l)
above-behind [] m r h = absurd (not-suc-le-zero h)
above-behind (x ∷ l) zero (one a r) h = a
above-behind (x ∷ l) (suc m) (one a r) h = above-behind l m r (omega arith)

zero_one : ◌≡◌ {A = ℕ} 0 1 → ⊥
zero_one h = omega arith

-- a list is parted at a number in one way
parted_once : (mid : ℕ) (a b c d : List ℕ) → Below mid a → Above mid b → Below mid c → Above mid d → a ++ b ≡ c ++ d → a ≡ c
parted_once mid [] b [] d p q s t e = refl
parted_once mid [] [] (y ∷ c) d p q s t e = absurd (zero_one cc)
parted_once mid [] (x ∷ b) (y ∷ c) d p (one q r) (one s u) t e = let i : x ≡ y = cc in absurd (omega (arith, i))
parted_once mid (x ∷ a) b [] [] p q s t e = absurd (zero_one cc)
parted_once mid (x ∷ a) b [] (y ∷ d) (one p r) q s (one t u) e = let i : x ≡ y = cc in absurd (omega (arith, i))
parted_once mid (x ∷ a) b (y ∷ c) d (one p r) q (one s u) t e =
    let i : x ≡ y = cc in
    let j : a ++ b ≡ c ++ d = cc in
    ap (λ (z : ℕ). z ∷ a) i ∙ ap (λ (l : List ℕ). y ∷ l) (parted_once mid a b c d r q u t j)

-- ---- windows

-- a front that is not as long as asked for is all
pub window-whole : (m r : ℕ) (keys all : List ℕ) → r ≤ length keys → r < m → take r keys ≡ take m all → take r keys ≡ all
window-whole m r keys all f h e = by (ltb m (length all)) refl
  where
    by : (t : Bool) → ltb m (length all) ≡ t → take r keys ≡ all
    by true t =
        let n : length (take m all) ≡ m = length-take-le m all (omega (arith, ltb-true m (length all) t)) in
        absurd (omega (arith, n, length-take-le r keys f, ap length e))
    by false t = e ∙ take_all m all (ltb-false m (length all) t)

-- a front that is as long as asked for is inside
pub front-inside : (r : ℕ) (l : List ℕ) → length (take r l) ≡ r → r ≤ length l
front-inside r l e = by (ltb (length l) r) refl
  where
    by : (t : Bool) → ltb (length l) r ≡ t → r ≤ length l
    by true t = omega (arith, e, ap length (take_all r l (omega (arith, ltb-true (length l) r t))))
    by false t = ltb-false (length l) r t

-- THE LAW of the next window: the range goes on behind the last key of a full one
pub window-next : (low high r : ℕ) (keys ks : List ℕ) → 0 < r → r ≤ length keys → take r keys ≡ take r (gathered [] (within low high ks))
    → gathered [] (within low high ks) ≡ take r keys ++ gathered [] (within (get_or keys (r - 1) 0 + 1) high ks)
window-next low high r keys ks some f e =
    let all = gathered [] (within low high ks) in
    let mid = get_or keys (r - 1) 0 + 1 in
    let k : suc (r - 1) ≡ r = omega arith in
    let n : r ≤ length all = front-inside r all (sym (ap length e) ∙ length-take-le r keys f) in
    let here : get_or keys (r - 1) 0 ≡ get_or all (r - 1) 0 =
    sym (get_or-take r keys (r - 1) 0 (omega arith)) ∙ ap (λ (l : List ℕ). get_or l (r - 1) 0) e ∙ get_or-take r all (r - 1) 0 (omega arith) in
    let rises = rising-gathered [] (within low high ks) none in
    let s : suc (get_or all (r - 1) 0) ≡ mid = omega (arith, here) in
    let first : Below mid (take r all) = subst (λ (j : ℕ). Below mid (take j all)) k (below_to all mid (r - 1) rises (omega arith) (omega (arith, here))) in
    let rest : Above mid (drop r all) =
    subst (λ (j : ℕ). Above mid (drop j all)) k (subst (λ (j : ℕ). Above j (drop (suc (r - 1)) all)) s (above-behind all (r - 1) rises (omega arith))) in
    let low-in = above_at (gathered-above low [] (within low high ks) none (within-above low high ks)) (r - 1) (omega arith) in
    let high-in = below_at high all (gathered-below high [] (within low high ks) none (within-below low high ks)) (r - 1) (omega arith) in
    let split = range_split low mid high (omega (arith, low-in, here)) (omega (arith, high-in, here)) [] [] ks none none in
    let same : gathered [] (within low mid ks) ≡ take r all =
    parted_once mid (gathered [] (within low mid ks)) (gathered [] (within mid high ks)) (take r all) (drop r all)
    (gathered-below mid [] (within low mid ks) none (within-below low mid ks)) (gathered-above mid [] (within mid high ks) none (within-above mid high ks)) first rest
    (sym split ∙ sym (take-append-drop r all)) in
    split ∙ ap (λ (l : List ℕ). l ++ gathered [] (within mid high ks)) (same ∙ sym e)
