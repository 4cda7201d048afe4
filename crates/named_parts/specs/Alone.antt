-- That the parts of a subset are ready is one fact, so that a type may hold it.
use Rattle.std.specs.Prelude.{ℕ, List, Option}
use Rattle.std.proofs.Props.{props}
use Rattle.plan.specs.Alone.{measure_in_prop}
use Rattle.faithful.specs.Alone.{held_prop}
use Rattle.order_window.specs.declared.Order.{Order}
use Rattle.encoding.specs.declared.Encoding.{Encoding}
use Rattle.outcome.specs.declared.tables.Parts.{Parts}
use Rattle.named_parts.specs.Named.{NamedReady}

pub named_ready_prop : (b ws : List ℕ) (o : Order) (parts : Parts) (e : Encoding) (codes : List (Option ℕ)) → IsProp (NamedReady b ws o parts e codes)
named_ready_prop b ws o parts e codes = Prim.hlevel (props, held_prop, measure_in_prop)
