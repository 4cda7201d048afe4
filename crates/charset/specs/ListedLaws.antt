-- Laws of lists by their places.
use Rattle.std.specs.Prelude.{ℕ, zero, suc, ◌+◌, ◌-◌, ◌<◌, ◌≡◌, refl, List, [], ◌∷◌, length, get_or}
use Rattle.std.proofs.Common.{sym, ap, ◌∙◌, not-suc-le-zero, add-zero, sub-one, arith}
use Rattle.charset.specs.Listed.{list_of}

pub list_length : (f : ℕ → ℕ) (s n : ℕ) → length (list_of f s n) ≡ n
unfolding list_of
list_length f s zero = refl
list_length f s (suc n) = ap suc (list_length f (s + 1) n)

pub list_at : (f : ℕ → ℕ) (s n i : ℕ) → i < n → get_or (list_of f s n) i 0 ≡ f (s + i)
unfolding list_of
list_at f s zero i h = absurd (not-suc-le-zero h)
list_at f s (suc n) zero h = ap f (sym (add-zero s))
list_at f s (suc n) (suc i) h =
    let e : s + 1 + i ≡ s + suc i = omega arith in
    list_at f (s + 1) n i (omega arith) ∙ ap f e

pub list_none : (f : ℕ → ℕ) (s n : ℕ) → n ≡ 0 → list_of f s n ≡ []
unfolding list_of
list_none f s n e = rw e

pub list_more : (f : ℕ → ℕ) (s n : ℕ) → 0 < n → list_of f s n ≡ f s ∷ list_of f (s + 1) (n - 1)
unfolding list_of
list_more f s zero h = absurd (not-suc-le-zero h)
list_more f s (suc n) h = simp sub-one

pub list_same : (f g : ℕ → ℕ) (s n : ℕ) → ((i : ℕ) → f i ≡ g i) → list_of f s n ≡ list_of g s n
unfolding list_of
list_same f g s zero e = refl
list_same f g s (suc n) e = ap (λ (x : ℕ). x ∷ list_of f (s + 1) n) (e s) ∙ ap (λ (l : List ℕ). g s ∷ l) (list_same f g (s + 1) n e)

pub list_below : (f : ℕ → ℕ) (m s n i : ℕ) → 0 < m → ((j : ℕ) → f j < m) → get_or (list_of f s n) i 0 < m
unfolding list_of
list_below f m s zero i h k = h
list_below f m s (suc n) zero h k = k s
list_below f m s (suc n) (suc i) h k = list_below f m (s + 1) n i h k
