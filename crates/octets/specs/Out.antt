-- What a lent output and its place are after bytes were written at that place.
use Rattle.std.specs.Prelude.{ℕ, ◌≡◌, List, length}
use Rattle.octets.specs.Octets.{Wrote}
use Rattle.octets.specs.declared.out.Out.{Out}

-- bs was written at the place of old, into the same memory, which is as long, and new's place is behind
pub record Writes (old : Out) (bs : List ℕ) (new : Out) : Type 0 where
  pub wrote : Wrote old.bytes.now old.at bs new.bytes.now new.at
  pub same : new.bytes.ghost_name ≡ old.bytes.ghost_name
  pub size : length new.bytes.now ≡ length old.bytes.now
