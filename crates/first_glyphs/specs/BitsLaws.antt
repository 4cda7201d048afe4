-- Laws of the bits of ids that were met.
use Rattle.std.specs.Prelude.{ℕ, ◌+◌, ◌/◌, ◌%◌, ◌^◌, ◌<◌, ◌≡◌, Bool, false, List, eqb, length, get_or, set, replicate}
use Rattle.std.proofs.Common.{ap, ◌∙◌, length-set}
use Rattle.std.proofs.Math.Nat.{zero-div}
use Rattle.std.specs.Int.Bits.{bit_or}
use Rattle.std.proofs.lemmas.List.{length-replicate}
use Rattle.octets.specs.ListLaws.{zeros-at}
use Rattle.bits.specs.Bits.{bit_in}
use Rattle.bits.specs.SetLaws.{set_bits}
use Rattle.first_glyphs.specs.Bits.{Sees, Unseen}

-- words that are 0 have no bit
pub zero_bits : (n : ℕ) (ws : List ℕ) → ws ≡ replicate n 0 → (c : ℕ) → bit_in ws 0 c ≡ false
zero_bits n ws e c =
    ap (λ (l : List ℕ). bit_in l 0 c) e
    ∙ ap (λ (x : ℕ). eqb (x / 2 ^ (c % 32) % 2) 1) (zeros-at n (0 + c / 32))
    ∙ ap (λ (x : ℕ). eqb (x % 2) 1) (zero-div (2 ^ (c % 32)))

pub unseen : (seen : List ℕ) → seen ≡ replicate 2048 0 → Unseen seen
unseen seen e = record { size = ap length e ∙ length-replicate {A = ℕ} 2048 0; none = zero_bits 2048 seen e }

-- a bit that is asked and then set
pub sees : (old new : List ℕ) (k : ℕ) (r : Bool) → 0 + k / 32 < length old → r ≡ bit_in old 0 k
    → new ≡ set old (0 + k / 32) (bit_or (get_or old (0 + k / 32) 0) (2 ^ (k % 32))) → Sees old k new r
sees old new k r h w e =
    record {
      size = ap length e ∙ length-set old (0 + k / 32) (bit_or (get_or old (0 + k / 32) 0) (2 ^ (k % 32)));
      was = w;
      bits = λ j. ap (λ (l : List ℕ). bit_in l 0 j) e ∙ set_bits old 0 k j h;
    }
