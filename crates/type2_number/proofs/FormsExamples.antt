-- Worked examples: the theorems of the two-byte forms, used at the ends of ranges.
use Rattle.std.specs.Prelude.{◌≡◌, refl, true, false, [], ◌∷◌, ℕ, ◌<◌, pos, negsuc}
use Rattle.std.proofs.Common.{arith}
use Rattle.type2_number.specs.Encoding.{integer_bytes}
use Rattle.type2_number.specs.Forms.{form_at, In}
use Rattle.type2_number.proofs.FormsLaws.{disjoint, within, form_writes}

-- 108 is the least of the first form, `f7 00`
pub from_108 : In (form_at 0) (pos 108)
from_108 = record { sign = refl; low = omega arith; high = omega arith }

first : integer_bytes false 108 ≡ 0xf7 ∷ 0x00 ∷ []
first = form_writes 0 (pos 108) (omega arith) from_108

-- -619 is the last of the sixth, `fc ff`, and of no other
to_619 : In (form_at 5) (negsuc 618)
to_619 = record { sign = refl; low = omega arith; high = omega arith }

sixth : integer_bytes true 619 ≡ 0xfc ∷ 0xff ∷ []
sixth = form_writes 5 (negsuc 618) (omega arith) to_619

sixth_alone : (k : ℕ) → k < 8 → In (form_at k) (negsuc 618) → k ≡ 5
sixth_alone k h x = disjoint k 5 (negsuc 618) h (omega arith) x to_619

-- 107 and -1132 are in none
not_107 : (k : ℕ) → k < 8 → In (form_at k) (pos 107) → ⊥
not_107 k h x = let w = within k (pos 107) h x in omega arith

not_1132 : (k : ℕ) → k < 8 → In (form_at k) (negsuc 1131) → ⊥
not_1132 k h x = let w = within k (negsuc 1131) h x in omega arith
