-- That subroutines are asked for rightly is one fact, so that a type may hold it.
use Rattle.std.specs.Prelude.{ℕ, List}
use Rattle.std.proofs.Props.{props}
use Rattle.index.specs.Alone.{good_prop}
use Rattle.unfold.specs.Unfold.{Row}
use Rattle.reach.specs.Reach.{SubrsFit}
use Rattle.bodies.specs.Sources.{Sourced}
use Rattle.bodies.specs.declared.subrs.Source.{Source}
use Rattle.reach.specs.declared.Subrs.{Subrs}
use Rattle.reach.specs.declared.Subrs.TheVariants.{Global, Local}

subrs_fit_prop : (of : Subrs) → IsProp (SubrsFit of)
subrs_fit_prop Global = Prim.hlevel props
subrs_fit_prop (Local fd) = Prim.hlevel props

pub sourced_prop : (from : Source) (rows : List Row) (ws b : List ℕ) → IsProp (Sourced from rows ws b)
sourced_prop from rows ws b = Prim.hlevel (props, good_prop, subrs_fit_prop)
