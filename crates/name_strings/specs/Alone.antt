-- That the new ids of slots are given is one fact, so that a type may hold it.
use Rattle.std.specs.Prelude.{ℕ, List}
use Rattle.std.proofs.Props.{props}
use Rattle.own_strings.specs.declared.slots.Slot.{Slot}
use Rattle.own_strings.specs.Ready.{SlotsGiven}

pub slots_given_prop : (strings : List (List ℕ)) (slots : List Slot) → IsProp (SlotsGiven strings slots)
slots_given_prop strings slots = Prim.hlevel (props)
