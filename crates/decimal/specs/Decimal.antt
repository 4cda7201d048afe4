-- Decimals: the numbers that a DICT can hold (TN5176, section 4), and when one is within the limits of refusal 5 (document 01,
-- 'Entries and their refusals'): zeros at either end dropped, at most 15 digits, and a last digit whose power of ten is -30 to 30.
use Rattle.std.specs.Prelude.{ℕ, zero, suc, ◌+◌, ◌-◌, ◌/◌, ◌%◌, ◌^◌, ◌≤◌, ◌<◌, ◌≡◌, Bool, false, eqb}
use Rattle.octets.specs.Pick.{pick}

-- ± digits × 10 ^ up / 10 ^ down
pub record Figure : Type 0 where
  pub neg : Bool
  pub digits : ℕ
  pub up : ℕ
  pub down : ℕ

-- zero, which is one value
abbrev pub nought : Figure
nought = record { neg = false; digits = 0; up = 0; down = 0 }

-- how many zeros n ends in, k of them at most
unfoldable pub zeros_of : ℕ → ℕ → ℕ
zeros_of zero n = 0
zeros_of (suc k) n = let more = suc (zeros_of k (n / 10)) in pick (eqb (n % 10) 0) more 0

-- how many zeros n ends in
unfoldable pub zeros : ℕ → ℕ
unfolding zeros_of
zeros n = zeros_of n n

-- n without the zeros that it ends in
unfoldable pub stripped : ℕ → ℕ
unfolding zeros
stripped n = n / 10 ^ zeros n

-- ± m × 10 ^ a / 10 ^ b, with one of the powers 0
abbrev pub scaled : Bool → ℕ → ℕ → ℕ → Figure
scaled s m a b = record { neg = s; digits = m; up = a - b; down = b - a }

-- ± n × 10 ^ a / 10 ^ b, normalised: no zero at the end of the digits, one of the powers 0, and zero without a sign
unfoldable pub normal : Bool → ℕ → ℕ → ℕ → Figure
unfolding zeros stripped
normal s n a b = pick (eqb n 0) nought (scaled s (stripped n) (a + zeros n) b)

-- a whole number that is not negative
abbrev pub whole : ℕ → Figure
whole n = normal false n 0 0

-- a decimal that normalising leaves as it is, within the limits of refusal 5: every number that a DICT holds
pub record Normal (d : Figure) : Type 0 where
  pub same : normal d.neg d.digits d.up d.down ≡ d
  pub few : d.digits < 10 ^ 15
  pub high : d.up ≤ 30
  pub low : d.down ≤ 30

-- what holds of every decimal of the code: no zero at the end of its digits but where it is zero, one power of ten at most, and neither past 30
pub record Reduced (d : Figure) : Type 0 where
  pub last : d.digits % 10 ≡ 0 → d ≡ nought
  pub one : 0 < d.down → d.up ≡ 0
  pub high : d.up ≤ 30
  pub low : d.down ≤ 30
