-- That offsets fit the five-byte form is one fact, and that slots are filled, so that a type may hold it.
use Rattle.std.specs.Prelude.{ℕ, List}
use Rattle.std.proofs.Props.{props}
use Rattle.own_strings.specs.declared.slots.Slot.{Slot}
use Rattle.top_dict.specs.Top.{Filled, Offsets}

pub offsets_prop : (a b c d : ℕ) → IsProp (Offsets a b c d)
offsets_prop a b c d = Prim.hlevel props

pub filled_prop : (slots : List Slot) → IsProp (Filled slots)
filled_prop slots = Prim.hlevel props
