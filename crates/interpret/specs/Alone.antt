-- That subroutines stand in a font is one fact, so that a type may hold it.
use Rattle.std.specs.Prelude.{List, ℕ}
use Rattle.std.proofs.Props.{props}
use Rattle.index.specs.Alone.{good_prop}
use Rattle.interpret.specs.Run.{Ready}
use Rattle.interpret.specs.declared.Subrs.{Subrs}

pub ready_prop : (font : List ℕ) (q : Subrs) → IsProp (Ready font q)
ready_prop font q = Prim.hlevel (props, good_prop)
