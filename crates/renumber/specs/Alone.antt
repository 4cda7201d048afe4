-- That bits are counted, and what renumbering a body asks, are facts one way only, so that a type may hold them.
use Rattle.std.specs.Prelude.{ℕ, List}
use Rattle.std.proofs.Props.{props}
use Rattle.renumber.specs.Ranks.{Ranked}
use Rattle.renumber.specs.Turn.{Inputs}
use Rattle.renumber.specs.declared.Ranks.{Ranks}

pub ranked_prop : (ws : List ℕ) (q : Ranks) → IsProp (Ranked ws q)
ranked_prop ws q = Prim.hlevel props

pub inputs_prop : (s ws : List ℕ) (locals globals : Ranks) → IsProp (Inputs s ws locals globals)
inputs_prop s ws locals globals = Prim.hlevel (props, ranked_prop)
