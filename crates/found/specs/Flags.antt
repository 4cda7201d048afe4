-- Flags of glyphs, a bit for each (document 01, refusal 7).
use Rattle.std.specs.Prelude.{ℕ, ◌≤◌, ◌<◌, ◌≡◌, false, List}
use Rattle.bits.specs.Bits.{bit_in}

-- of n flags none is set from a place on
pub record Unset (flags : List ℕ) (from n : ℕ) : Type 0 where
  pub none : (i : ℕ) → from ≤ i → i < n → bit_in flags 0 i ≡ false
