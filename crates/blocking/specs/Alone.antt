-- That no cut is refused early is one fact, so that a type may hold it.
use Rattle.std.specs.Prelude.{ℕ}
use Rattle.std.proofs.Props.{props}
use Rattle.cff.specs.Font.{Program}
use Rattle.blocking.specs.Search.{CanCut}

pub can_cut_prop : (p : Program) (name words : ℕ) → IsProp (CanCut p name words)
can_cut_prop p name words = Prim.hlevel props
