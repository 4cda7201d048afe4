-- Subroutines that do not fail, and how many bytes they have together.
use Rattle.std.specs.Prelude.{ℕ, ◌<◌, ◌≡◌, true}
use Rattle.std.proofs.Props.{props}
use Rattle.bits.specs.Bits.{count_below}
use Rattle.index.specs.Write.{total}
use Rattle.bodies.specs.Ways.{many_of, holds, reached_in}
use Rattle.bodies.specs.Written.{subrs_of}
use Rattle.bodies.specs.declared.subroutines.Subroutines.{Subroutines}

-- none fails, they have so many bytes together, and how many are reached is told
pub record Adds (all : Subroutines) (sum : ℕ) : Type 0 where
  pub counted : all.from.own.reached ≡ count_below (reached_in all.words.now all.from.own) all.from.own.count
  pub done : holds (subrs_of all) ≡ true
  pub is : sum ≡ total (many_of (subrs_of all))
  pub few : sum < 4294967295

pub adds_prop : (all : Subroutines) (sum : ℕ) → IsProp (Adds all sum)
adds_prop all sum = Prim.hlevel props
