-- Ids that were met, a bit for each (document 01, refusal 7).
use Rattle.std.specs.Prelude.{ℕ, ◌≡◌, Bool, true, false, List, eqb, length}
use Rattle.octets.specs.Pick.{pick}
use Rattle.bits.specs.Bits.{bit_in}

-- the bit of a number asked, and set; the others stay
pub record Sees (old : List ℕ) (k : ℕ) (new : List ℕ) (r : Bool) : Type 0 where
  pub size : length new ≡ length old
  pub was : r ≡ bit_in old 0 k
  pub bits : (j : ℕ) → bit_in new 0 j ≡ pick (eqb j k) true (bit_in old 0 j)

-- a bit for each id, none of them set
pub record Unseen (seen : List ℕ) : Type 0 where
  pub size : length seen ≡ 2048
  pub none : (c : ℕ) → bit_in seen 0 c ≡ false
