-- That FDs in use are of a font, and that tables are of all FDs, is one fact each, so that a type may hold it.
use Rattle.std.specs.Prelude.{ℕ, List}
use Rattle.std.proofs.Props.{props}
use Rattle.cff.specs.Font.{Program}
use Rattle.renumber.specs.declared.Ranks.{Ranks}
use Rattle.fds.specs.Locals.{UsedOf}
use Rattle.fds.specs.NewLocals.{Tables}

pub used_of_prop : (n : ℕ) (used : List ℕ) → IsProp (UsedOf n used)
used_of_prop n used = Prim.hlevel props

pub tables_prop : (b : List ℕ) (p : Program) (used : List ℕ) (table : List Ranks) → IsProp (Tables b p used table)
tables_prop b p used table = Prim.hlevel props
