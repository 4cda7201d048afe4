-- That the parts of a subset are ready is one fact, so that a type may hold it.
use Rattle.std.specs.Prelude.{ℕ, List}
use Rattle.std.proofs.Props.{props}
use Rattle.plan.specs.Alone.{measure_in_prop}
use Rattle.faithful.specs.Alone.{held_prop}
use Rattle.order_window.specs.declared.Order.{Order}
use Rattle.outcome.specs.declared.tables.Parts.{Parts}
use Rattle.cid_parts.specs.Cid.{PartsReady}

pub parts_ready_prop : (b ws : List ℕ) (o : Order) (parts : Parts) → IsProp (PartsReady b ws o parts)
parts_ready_prop b ws o parts = Prim.hlevel (props, held_prop, measure_in_prop)
