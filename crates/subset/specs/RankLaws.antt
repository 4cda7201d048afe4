-- Laws of ranks and of lists by number (document 01, 'Layout'): where a number stands among those that pass a test, and where an FD stands
-- among those in use.
use Rattle.std.specs.Prelude.{ℕ, zero, suc, ◌+◌, ◌≤◌, ◌<◌, ◌≡◌, refl, Bool, true, false, List, ◌∷◌, length, get_or, Some}
use Rattle.std.proofs.Common.{sym, ap, ◌∙◌, add-one, arith}
use Rattle.std.proofs.Math.Decide.{dec_le}
use Rattle.octets.specs.Pick.{pick}
use Rattle.prune.specs.StepLaws.{zero_one}
use Rattle.subset.specs.Kept.{those}
use Rattle.bits.specs.Bits.{count_below}
use Rattle.subset.specs.Pruned.{rank}

-- ---- how many are below

-- one more at most
pick-few : (t : Bool) → pick t 1 0 ≤ 1
pick-few true = omega arith
pick-few false = omega arith

-- no more are counted than there are numbers
pub count-few : (set : ℕ → Bool) (n : ℕ) → count_below set n ≤ n
unfolding count_below
count-few set zero = omega arith
count-few set (suc n) = omega (arith, count-few set n, pick-few (set n))

-- more numbers, no fewer of them in the set
pub count-rises : (set : ℕ → Bool) (i n : ℕ) → i ≤ n → count_below set i ≤ count_below set n
unfolding count_below
count-rises set i zero h = let e : i ≡ 0 = omega arith in rw e (omega arith)
count-rises set i (suc n) h = go (dec_le i n) (count-rises set i n)
  where
    go : Dec (i ≤ n) → (i ≤ n → count_below set i ≤ count_below set n) → count_below set i ≤ count_below set n + pick (set n) 1 0
    go (yes k) f = omega (arith, f k)
    go (no k) f = let e : i ≡ suc n = omega arith in rw e (omega arith)

-- a number of the set counts at the next
pub count_next : (set : ℕ → Bool) (i : ℕ) → count_below set (i + 1) ≡ count_below set i + pick (set i) 1 0
unfolding count_below
count_next set i = rw add-one

-- fewer are below a number of the set than below a greater one
pub count-below : (set : ℕ → Bool) (i n : ℕ) → set i ≡ true → i < n → count_below set i < count_below set n
count-below set i n e h =
    let m : count_below set (i + 1) ≡ count_below set i + 1 = count_next set i ∙ rw e in
    omega (arith, count-rises set (i + 1) n (omega arith))

-- none at n or above is in a set of which as many are below m
pub count-bound : (set : ℕ → Bool) (m n i : ℕ) → count_below set m ≡ count_below set n → set i ≡ true → i < m → i < n
count-bound set m n i e h l = go (dec_le (i + 1) n)
  where
    go : Dec (i + 1 ≤ n) → i < n
    go (yes k) = omega arith
    go (no k) = omega (arith, count-rises set n i (omega arith), count-below set i m h l)

-- a rank is of a number of the set, and counts those below it
pub rank-new : (set : ℕ → Bool) (i n : ℕ) → rank set i ≡ Some n → (set i ≡ true) × (n ≡ count_below set i)
rank-new set i n e = go (set i) refl
  where
    go : (t : Bool) → set i ≡ t → (set i ≡ true) × (n ≡ count_below set i)
    go true f = (f, cc)
    go false f = absurd (zero_one cc)

-- ---- those that pass a test

-- one element more, or not: the length, and what stands at a place
length-pick : (t : Bool) (x : ℕ) (xs : List ℕ) → length (pick t (x ∷ xs) xs) ≡ length xs + pick t 1 0
length-pick true x xs = omega arith
length-pick false x xs = omega arith

-- what stands behind an element that is there or not
at-pick : (t : Bool) (x : ℕ) (xs : List ℕ) (k : ℕ) → get_or (pick t (x ∷ xs) xs) (k + pick t 1 0) 0 ≡ get_or xs k 0
at-pick true x xs k = rw add-one
at-pick false x xs k = let e : k + 0 ≡ k = omega arith in rw e

-- those of the n numbers from g on are as many as are in the set
pub length-those : (test : ℕ → Bool) (n g : ℕ) → length (those test n g) + count_below test g ≡ count_below test (g + n)
unfolding those
length-those test zero g = let e : g + 0 ≡ g = omega arith in rw e (omega arith)
length-those test (suc n) g =
    let e : g + suc n ≡ g + 1 + n = omega arith in
    rw e (omega (arith, length-those test n (g + 1), count_next test g, length-pick (test g) g (those test n (g + 1))))

-- a number that passes stands at its rank
those-from : (test : ℕ → Bool) (n g j : ℕ) → g ≤ j → j < g + n → test j ≡ true
    → (k : ℕ) × (count_below test j ≡ count_below test g + k) × (get_or (those test n g) k 0 ≡ j)
unfolding those
those-from test zero g j h l e = absurd (zero_one (omega arith))
those-from test (suc n) g j h l e = go (dec_le (g + 1) j) (λ m. those-from test n (g + 1) j m (omega arith) e)
  where
    go : Dec (g + 1 ≤ j) → (g + 1 ≤ j → (k : ℕ) × (count_below test j ≡ count_below test (g + 1) + k) × (get_or (those test n (g + 1)) k 0 ≡ j))
        → (k : ℕ) × (count_below test j ≡ count_below test g + k) × (get_or (pick (test g) (g ∷ those test n (g + 1)) (those test n (g + 1))) k 0 ≡ j)
    go (yes m) f =
        let q = f m in
        (q.0 + pick (test g) 1 0, omega (arith, q.1, count_next test g), at-pick (test g) g (those test n (g + 1)) q.0 ∙ q.2)
    go (no m) f =
        let i : g ≡ j = omega arith in
        let c : count_below test j ≡ count_below test g = ap (count_below test) (sym i) in
        let t : test g ≡ true = ap test i ∙ e in
        (0, omega arith, rw t i)

-- those from 0 on
pub those-at : (test : ℕ → Bool) (n j : ℕ) → j < n → test j ≡ true → get_or (those test n 0) (count_below test j) 0 ≡ j
those-at test n j h e =
    let q = those-from test n 0 j (omega arith) (omega arith) e in
    let z : count_below test 0 ≤ 0 = count-few test 0 in
    let c : count_below test j ≡ q.0 = omega (arith, q.1) in
    rw c q.2
