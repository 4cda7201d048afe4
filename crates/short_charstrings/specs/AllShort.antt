-- Document 02, Wish 13: 'Each appears exactly once and nothing else does.' What the answers are, one call after the other, from nothing on.
use Rattle.std.specs.Prelude.{ℕ, ◌≡◌, true, List, [], ◌∷◌}
use Rattle.short_charstrings.specs.Short.{is_short, comes_before}
use Rattle.short_charstrings.specs.Next.{none_left, next, next_of}

-- the answers from s on, each given to the next call, until none is left
pub data Steps : List ℕ → List (List ℕ) → Type 0 where
  done : {s : List ℕ} → next_of s ≡ none_left → Steps s []
  step : {s : List ℕ} (t : List ℕ) {ts : List (List ℕ)} → next_of s ≡ next t → Steps t ts → Steps s (t ∷ ts)

-- u is one of them
pub data Among (u : List ℕ) : List (List ℕ) → Type 0 where
  here : {ts : List (List ℕ)} → Among u (u ∷ ts)
  later : {t : List ℕ} {ts : List (List ℕ)} → Among u ts → Among u (t ∷ ts)

-- each comes before all that follow it, so that none is there twice
pub data InOrder : List (List ℕ) → Type 0 where
  none : InOrder []
  one : {t : List ℕ} {ts : List (List ℕ)} → ((u : List ℕ) → Among u ts → comes_before t u ≡ true) → InOrder ts → InOrder (t ∷ ts)

-- all short charstrings, each once and in order, and nothing else
pub record AllShort (us : List (List ℕ)) : Type 0 where
  pub order : InOrder us
  pub each : (u : List ℕ) → is_short u ≡ true → Among u us
  pub only : (u : List ℕ) → Among u us → is_short u ≡ true
