-- What renumbering asks is one fact each, so that a type may hold it.
use Rattle.std.specs.Prelude.{ℕ, List}
use Rattle.std.proofs.Props.{props}
use Rattle.unfold.specs.Unfold.{Row}
use Rattle.cff.specs.Font.{Program}
use Rattle.cff.specs.declared.font.Font.{Font}
use Rattle.faithful.specs.Alone.{held_prop}
use Rattle.renumber.specs.declared.Ranks.{Ranks}
use Rattle.failing.specs.Failing.{FdsMarked, Asks}

pub fds_marked_prop : (p : Program) (keep used : List ℕ) → IsProp (FdsMarked p keep used)
fds_marked_prop p keep used = Prim.hlevel props

pub asks_prop : (b : List ℕ) (f : Font) (rows : List Row) (used ws : List ℕ) (globals : Ranks) (table : List Ranks) → IsProp (Asks b f rows used ws globals table)
asks_prop b f rows used ws globals table = Prim.hlevel (props, held_prop)
