-- That a Private DICT was read, and that a font has some FDs, is one fact each, so that a type may hold it.
use Rattle.std.specs.Prelude.{ℕ, ◌<◌, List, length, get_or}
use Rattle.std.proofs.Props.{props}
use Rattle.index.specs.Alone.{good_prop}
use Rattle.cff.specs.Reads.{GoodPrivate}
use Rattle.cff.specs.declared.private.PrivateAt.{PrivateAt}

pub good_private_prop : (b : List ℕ) (q : PrivateAt) → IsProp (GoodPrivate b q)
good_private_prop b q = Prim.hlevel (props, good_prop)

pub there_prop : (fds : List ℕ) (n : ℕ) → IsProp ((k : ℕ) → k < length fds → get_or fds k 0 < n)
there_prop fds n = Prim.hlevel props
