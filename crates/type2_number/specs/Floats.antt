-- The f32 that stands for a signed count of 65536ths (document 01, 'Corners in charstring.rs'): the nearest one, a tie to the even one; and the count it stands for.
use Rattle.std.specs.Prelude.{ℕ, suc, ◌*◌, ◌/◌, ◌≤◌, Bool, true, false, ◌≡◌, ℤ, pos, negsuc, neg_ℤ, Float}
use Rattle.std.specs.Float.{nan, inf, fin, binary32}
use Rattle.std.specs.Float.Ieee.{round, up, down}
use Rattle.type2_number.specs.Number.{mag}

unfoldable pub float_of : ℤ → Float
unfolding round
float_of (pos n) = round binary32 false n 65536
float_of (negsuc n) = round binary32 true (suc n) 65536

-- n, or -n where s
abbrev pub signed : Bool → ℕ → ℤ
signed false n = pos n
signed true n = neg_ℤ (pos n)

-- and back: x in 65536ths, cut toward zero, which is exact where x holds a reading
unfoldable pub scaled_of : Float → ℤ
scaled_of nan = pos 0
scaled_of (inf s) = pos 0
scaled_of (fin s m e) = signed s (m * up e * 65536 / down e)

-- x is the f32 that stands for some count of 65536ths from -2 ^ 31 to 2 ^ 31
pub record HoldsReading (x : Float) : Type 0 where
  pub count : ℤ
  pub stands : x ≡ float_of count
  pub small : mag count ≤ 2147483648
