-- What taking a piece does to a text that is being taken.
use Rattle.std.specs.Prelude.{ℕ, ◌≡◌, List, ◌++◌}
use Rattle.sheet.specs.Taking.{Took}
use Rattle.sheet.specs.declared.taking.Taking.{Taking}

-- the piece is taken behind any text that was taken before, into the same memory
pub record TakesOn (piece : List ℕ) (old new : Taking) : Type 0 where
  pub grows : (text : List ℕ) → Took text old.len old.mode old.buffer.now → Took (text ++ piece) new.len new.mode new.buffer.now
  pub same : new.buffer.ghost_name ≡ old.buffer.ghost_name
