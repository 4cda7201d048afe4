-- That what measuring asks is there is one fact, so that a type may hold it.
use Rattle.std.specs.Prelude.{ℕ, List}
use Rattle.std.proofs.Props.{props}
use Rattle.index.specs.Alone.{good_prop}
use Rattle.unfold.specs.Unfold.{Row}
use Rattle.cff.specs.Alone.{good_font_prop}
use Rattle.fds.specs.Alone.{tables_prop}
use Rattle.bodies.specs.declared.Manner.{Manner}
use Rattle.order_window.specs.declared.Order.{Order}
use Rattle.renumber.specs.declared.Ranks.{Ranks}
use Rattle.plan.specs.Sizes.{MeasureIn}

pub measure_in_prop : (b : List ℕ) (o : Order) (used ws : List ℕ) (how : Manner) (table : List Ranks) (rows : List Row) → IsProp (MeasureIn b o used ws how table rows)
measure_in_prop b o used ws how table rows = Prim.hlevel (props, good_prop, good_font_prop, tables_prop)
