use Rattle.dict.specs.Held.{entries}
use Rattle.own_strings.specs.Slots.{slots_of}
use Rattle.own_strings.specs.TurnLaws.{SlotsPut}
use Rattle.own_strings.proofs.put_slots.Given as goal

abbrev pub invariant-loop-j : goal.invariant-loop-j
invariant-loop-j l = SlotsPut (slots_of l.cid (entries l.top)) l.initial.slots l.slots l.j
