-- Laws of the checks of an encoding, one for each test of the code.
use Rattle.std.specs.Prelude.{ℕ, suc, ◌+◌, ◌*◌, ◌/◌, ◌%◌, ◌≤◌, ◌<◌, ◌≡◌, List, length, drop, get_or, Result, Ok, Err}
use Rattle.std.proofs.Common.{ap, mul-le-mul, arith, eq-eqb, ne_eqb, lt-ltb, le-ltb, length-drop, drop_of_length-le, drop-cons, drop-drop}
use Rattle.std.proofs.Math.Numerals.{add-one}
use Rattle.refusal.specs.declared.Refusal.{Refusal}
use Rattle.refusal.specs.declared.Refusal.TheVariants.{Truncated, Malformed}
use Rattle.charset.specs.Encoding.{entries, supplements, encoding_at}

-- ---- a count and its entries at a place

pub no_count : (b : List ℕ) (p size : ℕ) (rest : List ℕ → Result Unit Refusal) → length b ≤ p → Err Truncated ≡ entries size (drop p b) rest
no_count b p size rest h = rw (drop_of_length-le b h)

module _ (b : List ℕ) (p size count : ℕ) (rest : List ℕ → Result Unit Refusal) (there : p < length b) (e : count ≡ get_or b p 0) where
  pub entries_lost : length b < p + 1 + count * size → Err Truncated ≡ entries size (drop p b) rest
  entries_lost h =
      let z = ap (λ (n : ℕ). n * size) e in
      let m : length (drop (suc p) b) < get_or b p 0 * size = rw length-drop (omega arith) in
      rw (drop-cons b p 0 there) (simp (lt-ltb (length (drop (suc p) b)) (get_or b p 0 * size) m))

  pub entries-behind : p + 1 + count * size ≤ length b → rest (drop (p + 1 + count * size) b) ≡ entries size (drop p b) rest
  entries-behind h =
      let z = ap (λ (n : ℕ). n * size) e in
      let m : get_or b p 0 * size ≤ length (drop (suc p) b) = rw length-drop (omega arith) in
      let a : suc p + get_or b p 0 * size ≡ p + 1 + count * size = omega arith in
      rw (drop-cons b p 0 there) (simp (le-ltb (length (drop (suc p) b)) (get_or b p 0 * size) m, drop-drop, a))

-- ---- the encoding by its format

pub encoding_lost : (b : List ℕ) (at : ℕ) → length b ≤ at → Err Truncated ≡ encoding_at b at
unfolding encoding_at
encoding_lost b at h = rw (drop_of_length-le b h)

module _ (b : List ℕ) (at format : ℕ) (there : at < length b) (e : format ≡ get_or b at 0) where
  pub encoding_unknown : 1 < format % 128 → Err Malformed ≡ encoding_at b at
  unfolding encoding_at
  encoding_unknown h = rw (drop-cons b at 0 there, ← e) (simp (lt-ltb 1 (format % 128) h))

  pub encoding-codes : format % 128 ≤ 1 → entries (format % 128 + 1) (drop (at + 1) b) (supplements format) ≡ encoding_at b at
  unfolding encoding_at
  encoding-codes h = rw (drop-cons b at 0 there, ← e, add-one at) (simp (le-ltb 1 (format % 128) h))

pub no_supplements : (format : ℕ) (bs : List ℕ) → format / 128 ≡ 0 → Ok tt ≡ supplements format bs
no_supplements format bs h = simp (eq-eqb (format / 128) 0 h)

pub some-supplements : (format : ℕ) (bs : List ℕ) → (format / 128 ≡ 0 → ⊥) → entries 3 bs (λ end. Ok tt) ≡ supplements format bs
some-supplements format bs h = simp (ne_eqb (format / 128) 0 h)

-- what the codes or ranges take is little
pub codes-small : (count kind : ℕ) → count < 256 → kind ≤ 1 → count * (kind + 1) ≤ 512
codes-small count kind h k = mul-le-mul {n₁ = count} {m₁ = kind + 1} {n₂ = 256} {m₂ = 2} (omega arith) (omega arith)
