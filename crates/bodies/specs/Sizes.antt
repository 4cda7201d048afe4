-- How long bodies are together, body by body (document 01, 'Corners in write.rs'): of numbers that pass a test, in order.
use Rattle.std.specs.Prelude.{ℕ, ◌+◌, ◌-◌, ◌*◌, ◌≤◌, ◌≡◌, Bool, List, None, Option, Some}
use Rattle.octets.specs.Pick.{pick}
use Rattle.index.specs.Write.{total}
use Rattle.subset.specs.Kept.{those}
use Rattle.subset.specs.Pruned.{each}
use Rattle.renumber.specs.Turn.{sized_of}
use Rattle.bodies.specs.Ways.{measured_of}

-- a length that is no more than n
abbrev pub AtMost : ℕ → Option ℕ → Type 0
AtMost n None = Unit
AtMost n (Some m) = m ≤ n

-- a sum of at most 65,535 such lengths, each of five times a font
abbrev pub Bounded : Option ℕ → Type 0
Bounded None = Unit
Bounded (Some t) = t ≤ 21989897011200

-- some bodies after others that have t bytes together
abbrev pub added_to : ℕ → Option (List (List ℕ)) → Option ℕ
added_to t None = None
added_to t (Some l) = Some (t + total l)

-- how long the body of a number is: 0 where it does not pass
abbrev pub len_at : (ℕ → Bool) → (ℕ → Option (List ℕ)) → ℕ → Option ℕ
len_at test f k = pick (test k) (sized_of (f k)) (Some 0)

-- the bodies of the numbers below k were measured, and have t bytes together
pub record Adding (f : ℕ → Option (List ℕ)) (test : ℕ → Bool) (n k t : ℕ) : Type 0 where
  pub among : k ≤ n
  pub left : added_to t (each f (those test (n - k) k)) ≡ measured_of (each f (those test n 0))
  pub small : t ≤ k * 335544320
