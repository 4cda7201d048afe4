-- That the rows of a body can be taken by windows is one fact, so that a type may hold it.
use Rattle.std.proofs.Props.{props}
use Rattle.unfold.specs.declared.Site.{Site}
use Rattle.long_bodies.specs.Offsets.{Sited}

pub sited_prop : (s : Site) → IsProp (Sited s)
sited_prop s = Prim.hlevel props
