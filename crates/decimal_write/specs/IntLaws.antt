-- The bytes of an integer by cases, as the code takes them, and how many they are.
use Prim.Native.Nat.{ℕ, suc, ◌+◌, ◌-◌, ◌/◌, ◌%◌, ◌≤◌, ◌<◌}
use Rattle.std.specs.Prelude.{◌≡◌, Bool, true, false, [], ◌∷◌, length}
use Rattle.std.proofs.Common.{sym, ◌∙◌}
use Rattle.std.proofs.Math.Path.{ap}
use native.Mathlib.Omega.{arith}
use borrow.Author.Tests.{le-leb, lt-leb}
use Rattle.octets.specs.Pick.{pick}
use Rattle.octets.specs.Octets.{bytes_of}
use Rattle.octets.specs.OctetsLaws.{length-bytes}
use Rattle.decimal.specs.Written.{int_bytes, int5_bytes}

module _ (s : Bool) (v : ℕ) where
  pub one : v ≤ 107 → int_bytes s v ≡ pick s (139 - v) (139 + v) ∷ []
  unfolding int_bytes
  one h = rw (le-leb v 107 h)

  pub two : 107 < v → v ≤ 1131 → int_bytes s v ≡ ((v - 108) / 256 + pick s 251 247) ∷ ((v - 108) % 256) ∷ []
  unfolding int_bytes
  two h k = rw (lt-leb v 107 h, le-leb v 1131 k)

  pub three : 1131 < v → v ≤ pick s 32768 32767 → int_bytes s v ≡ 28 ∷ bytes_of 2 (pick s (65536 - v) v)
  unfolding int_bytes
  three h k = let l : 107 < v = omega arith in rw (lt-leb v 107 l, lt-leb v 1131 h, le-leb v (pick s 32768 32767) k)

  pub five : 1131 < v → pick s 32768 32767 < v → int_bytes s v ≡ int5_bytes s v
  unfolding int_bytes
  five h k = let l : 107 < v = omega arith in rw (lt-leb v 107 l, lt-leb v 1131 h, lt-leb v (pick s 32768 32767) k)

  pub length-one : v ≤ 107 → length (int_bytes s v) ≡ 1
  length-one h = ap length (one h)

  pub length_two : 107 < v → v ≤ 1131 → length (int_bytes s v) ≡ 2
  length_two h k = ap length (two h k)

  pub length_three : 1131 < v → v ≤ pick s 32768 32767 → length (int_bytes s v) ≡ 3
  length_three h k = ap length (three h k) ∙ ap suc (length-bytes 2 _)

  pub length_int5 : length (int5_bytes s v) ≡ 5
  unfolding int5_bytes
  length_int5 = ap suc (length-bytes 4 (pick s (4294967296 - v) v))

  pub length_five : 1131 < v → pick s 32768 32767 < v → length (int_bytes s v) ≡ 5
  length_five h k = ap length (five h k) ∙ length_int5

  -- the sign's two bounds
  least : s ≡ true → v ≤ 32768 → v ≤ pick s 32768 32767
  least e h = rw e h

  most : s ≡ false → v ≤ 32767 → v ≤ pick s 32768 32767
  most e h = rw e h

  below : s ≡ true → 32768 < v → pick s 32768 32767 < v
  below e h = rw e h

  above : s ≡ false → 32767 < v → pick s 32768 32767 < v
  above e h = rw e h

  low : (t : Bool) → v ≤ 32767 → v ≤ pick t 32768 32767
  low true h = omega arith
  low false h = h

  -- ---- the length, as `int_len` finds it
  pub len_low : 1131 < v → v ≤ 32767 → 3 ≡ length (int_bytes s v)
  len_low h k = sym (length_three h (low s k))

  pub len_least : 32767 < v → s ≡ true → v ≡ 32768 → 3 ≡ length (int_bytes s v)
  len_least h e q = sym (length_three (omega arith) (least e (omega arith)))

  pub len_down : 32767 < v → s ≡ true → (v ≡ 32768 → ⊥) → 5 ≡ length (int_bytes s v)
  len_down h e q = sym (length_five (omega arith) (below e (omega arith)))

  pub len_up : 32767 < v → s ≡ false → 5 ≡ length (int_bytes s v)
  len_up h e = sym (length_five (omega arith) (above e h))

  -- ---- the bytes, as `put_int` writes them
  pub one-neg : s ≡ true → v ≤ 107 → ((139 - v) ∷ []) ≡ int_bytes s v
  one-neg e h = sym (one h ∙ ap (λ (b : Bool). pick b (139 - v) (139 + v) ∷ []) e)

  pub one_pos : s ≡ false → v ≤ 107 → ((139 + v) ∷ []) ≡ int_bytes s v
  one_pos e h = sym (one h ∙ ap (λ (b : Bool). pick b (139 - v) (139 + v) ∷ []) e)

  pub two-neg : s ≡ true → 107 < v → v ≤ 1131 → (((v - 108) / 256 + 251) ∷ ((v - 108) % 256) ∷ []) ≡ int_bytes s v
  two-neg e h k = sym (two h k ∙ ap (λ (b : Bool). ((v - 108) / 256 + pick b 251 247) ∷ ((v - 108) % 256) ∷ []) e)

  pub two_pos : s ≡ false → 107 < v → v ≤ 1131 → (((v - 108) / 256 + 247) ∷ ((v - 108) % 256) ∷ []) ≡ int_bytes s v
  two_pos e h k = sym (two h k ∙ ap (λ (b : Bool). ((v - 108) / 256 + pick b 251 247) ∷ ((v - 108) % 256) ∷ []) e)

  pub three-neg : s ≡ true → 1131 < v → v ≤ 32768 → (28 ∷ bytes_of 2 (65536 - v)) ≡ int_bytes s v
  three-neg e h k = sym (three h (least e k) ∙ ap (λ (b : Bool). 28 ∷ bytes_of 2 (pick b (65536 - v) v)) e)

  pub three_pos : s ≡ false → 1131 < v → v ≤ 32767 → (28 ∷ bytes_of 2 v) ≡ int_bytes s v
  three_pos e h k = sym (three h (most e k) ∙ ap (λ (b : Bool). 28 ∷ bytes_of 2 (pick b (65536 - v) v)) e)

  pub five_neg : s ≡ true → 1131 < v → 32768 < v → int5_bytes s v ≡ int_bytes s v
  five_neg e h k = sym (five h (below e k))

  pub five_pos : s ≡ false → 1131 < v → 32767 < v → int5_bytes s v ≡ int_bytes s v
  five_pos e h k = sym (five h (above e k))

  pub length-neg : s ≡ true → 1131 < v → v ≤ 32768 → length (int_bytes s v) ≡ 3
  length-neg e h k = length_three h (least e k)

  pub length_pos : s ≡ false → 1131 < v → v ≤ 32767 → length (int_bytes s v) ≡ 3
  length_pos e h k = length_three h (most e k)

  pub length-below : s ≡ true → 1131 < v → 32768 < v → length (int_bytes s v) ≡ 5
  length-below e h k = length_five h (below e k)

  pub length_above : s ≡ false → 1131 < v → 32767 < v → length (int_bytes s v) ≡ 5
  length_above e h k = length_five h (above e k)

  pub int5_neg : s ≡ true → (29 ∷ bytes_of 4 (4294967296 - v)) ≡ int5_bytes s v
  unfolding int5_bytes
  int5_neg e = ap (λ (b : Bool). 29 ∷ bytes_of 4 (pick b (4294967296 - v) v)) (sym e)

  pub int5_pos : s ≡ false → (29 ∷ bytes_of 4 v) ≡ int5_bytes s v
  unfolding int5_bytes
  int5_pos e = ap (λ (b : Bool). 29 ∷ bytes_of 4 (pick b (4294967296 - v) v)) (sym e)
