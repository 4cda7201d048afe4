-- A list of a length, shut: it stands for an output that nobody lends.
use Rattle.std.specs.Prelude.{ℕ, ◌≡◌, List, length, replicate}
use Rattle.std.proofs.lemmas.List.{length-replicate}

pub of_length : (n : ℕ) → (l : List ℕ) × (length l ≡ n)
of_length n = (replicate n 0, length-replicate n 0)
