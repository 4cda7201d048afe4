-- The answer by its kind.
use Rattle.std.specs.Prelude.{ℕ, ◌≡◌, List, None}
use Rattle.std.proofs.Common.{ne_eqb}
use Rattle.format_cases.specs.Answers.{answer_to}

pub answer-none : (b : ℕ) (s : List ℕ) → (b ≡ 120 → ⊥) → (b ≡ 100 → ⊥) → (b ≡ 119 → ⊥) → (b ≡ 99 → ⊥) → (b ≡ 115 → ⊥) → answer_to b s ≡ None
unfolding answer_to
answer-none b s x d w c z = simp (ne_eqb b 120 x, ne_eqb b 100 d, ne_eqb b 119 w, ne_eqb b 99 c, ne_eqb b 115 z)
