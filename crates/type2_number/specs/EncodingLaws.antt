-- The bytes of a number by cases, as the code takes them, and how many they are.
use Rattle.std.specs.Prelude.{◌≡◌, List, [], ◌∷◌, Bool, true, false, leb, ltb, eqb, ℤ, length}
use Rattle.std.proofs.Common.{sym, ◌∙◌}
use Rattle.std.proofs.Math.Path.{ap}
use Prim.Native.Nat.{ℕ, suc, ◌+◌, ◌-◌, ◌/◌, ◌%◌, ◌≤◌, ◌<◌, min}
use native.Mathlib.Omega.{arith}
use borrow.Author.Tests.{lt-ltb, le-ltb, le-leb, lt-leb, eq-eqb, ne_eqb}
use Rattle.octets.specs.Pick.{pick, pick_ind}
use Rattle.octets.specs.Octets.{bytes_of}
use Rattle.octets.specs.OctetsLaws.{length-bytes}
use Rattle.type2_number.specs.Number.{is_neg, mag}
use Rattle.type2_number.specs.Encoding.{integer_bytes, fixed_bytes, number_bytes, encoded}

module _ (s : Bool) (v : ℕ) where
  one : v ≤ 107 → integer_bytes s v ≡ pick s (139 - v) (139 + v) ∷ []
  unfolding integer_bytes
  one h = rw (le-leb v 107 h)

  pub two : 107 < v → v ≤ 1131 → integer_bytes s v ≡ ((v - 108) / 256 + pick s 251 247) ∷ ((v - 108) % 256) ∷ []
  unfolding integer_bytes
  two h k = rw (lt-leb v 107 h, le-leb v 1131 k)

  three : 1131 < v → integer_bytes s v ≡ 28 ∷ bytes_of 2 (pick s (65536 - v) v)
  unfolding integer_bytes
  three h = let k : 107 < v = omega arith in rw (lt-leb v 107 k, lt-leb v 1131 h)

  pub length-one : v ≤ 107 → length (integer_bytes s v) ≡ 1
  length-one h = ap length (one h)

  pub length_two : 107 < v → v ≤ 1131 → length (integer_bytes s v) ≡ 2
  length_two h k = ap length (two h k)

  pub length_three : 1131 < v → length (integer_bytes s v) ≡ 3
  length_three h = ap length (three h) ∙ ap suc (length-bytes 2 _)

  pub one-neg : s ≡ true → v ≤ 107 → ((139 - v) ∷ []) ≡ integer_bytes s v
  one-neg e h = sym (one h ∙ ap (λ (b : Bool). pick b (139 - v) (139 + v) ∷ []) e)

  pub one_pos : s ≡ false → v ≤ 107 → ((139 + v) ∷ []) ≡ integer_bytes s v
  one_pos e h = sym (one h ∙ ap (λ (b : Bool). pick b (139 - v) (139 + v) ∷ []) e)

  pub two-neg : s ≡ true → 107 < v → v ≤ 1131 → (((v - 108) / 256 + 251) ∷ ((v - 108) % 256) ∷ []) ≡ integer_bytes s v
  two-neg e h k = sym (two h k ∙ ap (λ (b : Bool). ((v - 108) / 256 + pick b 251 247) ∷ ((v - 108) % 256) ∷ []) e)

  pub two_pos : s ≡ false → 107 < v → v ≤ 1131 → (((v - 108) / 256 + 247) ∷ ((v - 108) % 256) ∷ []) ≡ integer_bytes s v
  two_pos e h k = sym (two h k ∙ ap (λ (b : Bool). ((v - 108) / 256 + pick b 251 247) ∷ ((v - 108) % 256) ∷ []) e)

  pub three-neg : s ≡ true → 1131 < v → (28 ∷ bytes_of 2 (65536 - v)) ≡ integer_bytes s v
  three-neg e h = sym (three h ∙ ap (λ (b : Bool). 28 ∷ bytes_of 2 (pick b (65536 - v) v)) e)

  pub three_pos : s ≡ false → 1131 < v → (28 ∷ bytes_of 2 v) ≡ integer_bytes s v
  three_pos e h = sym (three h ∙ ap (λ (b : Bool). 28 ∷ bytes_of 2 (pick b (65536 - v) v)) e)

  pub fixed-neg : s ≡ true → (255 ∷ bytes_of 4 (4294967296 - v)) ≡ fixed_bytes s v
  unfolding fixed_bytes
  fixed-neg e = ap (λ (b : Bool). 255 ∷ bytes_of 4 (pick b (4294967296 - v) (min v 2147483647))) (sym e)

  fixed-least : s ≡ false → (w : ℕ) → w ≡ min v 2147483647 → (255 ∷ bytes_of 4 w) ≡ fixed_bytes s v
  unfolding fixed_bytes
  fixed-least e w m = ap (λ (n : ℕ). 255 ∷ bytes_of 4 n) m ∙ ap (λ (b : Bool). 255 ∷ bytes_of 4 (pick b (4294967296 - v) (min v 2147483647))) (sym e)

  pub fixed_pos : s ≡ false → v ≤ 2147483647 → (255 ∷ bytes_of 4 v) ≡ fixed_bytes s v
  fixed_pos e h = fixed-least e v (omega arith)

  pub fixed-top : s ≡ false → 2147483647 < v → (255 ∷ bytes_of 4 2147483647) ≡ fixed_bytes s v
  fixed-top e h = fixed-least e 2147483647 (omega arith)

  pub num-fraction : (v % 65536 ≡ 0 → ⊥) → fixed_bytes s v ≡ number_bytes s v
  unfolding number_bytes
  num-fraction h = rw (ne_eqb (v % 65536) 0 h)

  pub num-integer : v % 65536 ≡ 0 → v < 2147483648 → integer_bytes s (v / 65536) ≡ number_bytes s v
  unfolding number_bytes
  num-integer h k = rw (eq-eqb (v % 65536) 0 h, lt-ltb v 2147483648 k)

  pub num_big : v % 65536 ≡ 0 → 2147483648 ≤ v → fixed_bytes s v ≡ number_bytes s v
  unfolding number_bytes
  num_big h k = rw (eq-eqb (v % 65536) 0 h, le-ltb v 2147483648 k)

  pub fixed-length : length (fixed_bytes s v) ≡ 5
  unfolding fixed_bytes
  fixed-length = ap suc (length-bytes 4 _)

-- the bytes of a count, by its sign and size
module _ (z : ℤ) (s : Bool) (n : ℕ) (p : s ≡ is_neg z) (q : n ≡ mag z) where
  same : number_bytes s n ≡ encoded z
  same = cc

  pub encoded-fraction : (n % 65536 ≡ 0 → ⊥) → fixed_bytes s n ≡ encoded z
  encoded-fraction h = num-fraction s n h ∙ same

  pub encoded-integer : n % 65536 ≡ 0 → n < 2147483648 → integer_bytes s (n / 65536) ≡ encoded z
  encoded-integer h k = num-integer s n h k ∙ same

  pub encoded_big : n % 65536 ≡ 0 → 2147483648 ≤ n → fixed_bytes s n ≡ encoded z
  encoded_big h k = num_big s n h k ∙ same

  pub fraction-length : (n % 65536 ≡ 0 → ⊥) → 5 ≡ length (encoded z)
  fraction-length h = sym (fixed-length s n) ∙ ap length (encoded-fraction h)

  pub big_length : n % 65536 ≡ 0 → 2147483648 ≤ n → 5 ≡ length (encoded z)
  big_length h k = sym (fixed-length s n) ∙ ap length (encoded_big h k)

  pub integer-length : n % 65536 ≡ 0 → n < 2147483648 → length (integer_bytes s (n / 65536)) ≡ length (encoded z)
  integer-length h k = ap length (encoded-integer h k)

-- a number takes one to five bytes
pub record Short (bs : List ℕ) : Type 0 where
  pub some : 0 < length bs
  pub few : length bs ≤ 5

integer-short : (s : Bool) (v : ℕ) → Short (integer_bytes s v)
unfolding integer_bytes
integer-short s v =
    pick_ind Short (leb v 107) _ _ (λ e. record { some = omega arith; few = omega arith })
    (λ e. pick_ind Short (leb v 1131) _ _ (λ e. record { some = omega arith; few = omega arith })
    (λ e. record { some = omega arith; few = omega (arith, length-bytes 2 (pick s (65536 - v) v)) }))

fixed-short : (s : Bool) (n : ℕ) → Short (fixed_bytes s n)
fixed-short s n = record { some = omega (arith, fixed-length s n); few = omega (arith, fixed-length s n) }

pub number_short : (s : Bool) (n : ℕ) → Short (number_bytes s n)
unfolding number_bytes
number_short s n =
    pick_ind Short (eqb (n % 65536) 0) _ _
    (λ e. pick_ind Short (ltb n 2147483648) _ _ (λ e. integer-short s (n / 65536)) (λ e. fixed-short s n)) (λ e. fixed-short s n)
