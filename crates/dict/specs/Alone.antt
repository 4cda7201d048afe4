-- That entries stand where it was noted is one fact, so that a type may hold it.
use Rattle.std.specs.Prelude.{ℕ, List, Option}
use Rattle.std.proofs.Props.{props}
use Rattle.dict.specs.Noted.{Placed}
use Rattle.dict.specs.declared.Places.{Places}

pub placed_prop : (b : List ℕ) (noted : Option Places) → IsProp (Placed b noted)
placed_prop b noted = Prim.hlevel props
