-- Laws of the numbers that pass a test (document 01, 'Layout'): the FDs in use do not depend on how many numbers are looked at, and the new
-- number of one counts those below it.
use Rattle.std.specs.Prelude.{ℕ, zero, suc, ◌+◌, ◌≤◌, ◌<◌, ◌≡◌, refl, Bool, true, false, List, [], ◌∷◌, eqb}
use Rattle.std.proofs.Common.{sym, ap, ◌∙◌, arith, eq-eqb, ne_eqb}
use Rattle.std.proofs.Math.Decide.{dec_le}
use Rattle.octets.specs.Pick.{pick, pick_ind}
use Rattle.prune.specs.StepLaws.{zero_one}
use Rattle.subset.specs.Kept.{those, new_fd}
use Rattle.bits.specs.Bits.{count_below}
use Rattle.subset.specs.RankLaws.{count_next, count-few}

-- none passes
pub those-none : (test : ℕ → Bool) (n g : ℕ) → ((k : ℕ) → test k ≡ true → k < g) → those test n g ≡ []
unfolding those
those-none test zero g low = refl
those-none test (suc n) g low =
    pick_ind (λ (l : List ℕ). l ≡ []) (test g) (g ∷ those test n (g + 1)) (those test n (g + 1))
    (λ t. absurd (zero_one (omega (arith, low g t))))
    (λ t. those-none test n (g + 1) (λ k h. omega (arith, low k h)))

-- those that pass are the same among n and m numbers where none beyond passes
pub those-bounds : (test : ℕ → Bool) (n m g : ℕ) → ((k : ℕ) → test k ≡ true → k < g + n) → ((k : ℕ) → test k ≡ true → k < g + m) → those test n g ≡ those test m g
unfolding those
those-bounds test zero m g low high = sym (those-none test m g (λ k h. omega (arith, low k h)))
those-bounds test (suc n) zero g low high = those-none test (suc n) g (λ k h. omega (arith, high k h))
those-bounds test (suc n) (suc m) g low high =
    ap (λ (l : List ℕ). pick (test g) (g ∷ l) l) (those-bounds test n m (g + 1) (λ k h. omega (arith, low k h)) (λ k h. omega (arith, high k h)))

-- a number's place among those that pass is how many are below it
new-from : (test : ℕ → Bool) (n g f : ℕ) → g ≤ f → f < g + n → test f ≡ true → new_fd (those test n g) f + count_below test g ≡ count_below test f
unfolding those new_fd
new-from test zero g f h l e = absurd (zero_one (omega arith))
new-from test (suc n) g f h l e = go (dec_le (g + 1) f) (λ m. new-from test n (g + 1) f m (omega arith) e)
  where
    go : Dec (g + 1 ≤ f) → (g + 1 ≤ f → new_fd (those test n (g + 1)) f + count_below test (g + 1) ≡ count_below test f)
        → new_fd (pick (test g) (g ∷ those test n (g + 1)) (those test n (g + 1))) f + count_below test g ≡ count_below test f
    go (yes m) r =
        let d : eqb g f ≡ false = ne_eqb g f (λ z. omega arith) in
        pick_ind (λ (l : List ℕ). new_fd l f + count_below test g ≡ count_below test f) (test g) (g ∷ those test n (g + 1)) (those test n (g + 1))
        (λ t. let c : count_below test (g + 1) ≡ count_below test g + 1 = count_next test g ∙ rw t in rw d (omega (arith, r m)))
        (λ t. let c : count_below test (g + 1) ≡ count_below test g + 0 = count_next test g ∙ rw t in omega (arith, r m))
    go (no m) r =
        let i : g ≡ f = omega arith in
        let t : test g ≡ true = ap test i ∙ e in
        let c : count_below test g ≡ count_below test f = ap (count_below test) i in
        rw (t, eq-eqb g f i) (omega arith)

-- those from 0 on
pub new-count : (test : ℕ → Bool) (n f : ℕ) → f < n → test f ≡ true → new_fd (those test n 0) f ≡ count_below test f
new-count test n f h e = omega (arith, new-from test n 0 f (omega arith) (omega arith) e, count-few test 0)
