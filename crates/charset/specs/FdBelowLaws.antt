-- Laws of the test that each glyph's FD is below a count, glyph by glyph.
use Rattle.std.specs.Prelude.{ℕ, ◌+◌, ◌-◌, ◌≤◌, ◌<◌, ◌≡◌, true, false, ◌∷◌}
use Rattle.std.proofs.Common.{sym, ap, ◌∙◌, arith, lt-ltb, le-ltb}
use Rattle.octets.specs.Lists.{all_below}
use Rattle.charset.specs.Listed.{list_of}
use Rattle.charset.specs.ListedLaws.{list_none, list_more}

module _ (f : ℕ → ℕ) (count g n fd : ℕ) (h : g < n) (e : fd ≡ f g) where
  more : list_of f g (n - g) ≡ fd ∷ list_of f (g + 1) (n - (g + 1))
  more =
      let a : n - g - 1 ≡ n - (g + 1) = omega arith in
      list_more f g (n - g) (omega arith) ∙ ap (λ (k : ℕ). f g ∷ list_of f (g + 1) k) a
      ∙ ap (λ (x : ℕ). x ∷ list_of f (g + 1) (n - (g + 1))) (sym e)

  pub below_stops : count ≤ fd → false ≡ all_below count (list_of f g (n - g))
  unfolding all_below
  below_stops m = rw more (simp (le-ltb fd count m))

  pub below_goes_on : fd < count → all_below count (list_of f (g + 1) (n - (g + 1))) ≡ all_below count (list_of f g (n - g))
  unfolding all_below
  below_goes_on m = rw more (simp (lt-ltb fd count m))

pub below_done : (f : ℕ → ℕ) (count g n : ℕ) → n ≤ g → true ≡ all_below count (list_of f g (n - g))
unfolding all_below
below_done f count g n h = rw (list_none f g (n - g) (omega arith))
