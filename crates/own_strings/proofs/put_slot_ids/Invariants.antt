use Rattle.index.specs.Items.{items}
use Rattle.own_strings.specs.IdsLaws.{IdsPut}
use Rattle.own_strings.proofs.put_slot_ids.Given as goal

abbrev pub invariant-loop-j : goal.invariant-loop-j
invariant-loop-j l = IdsPut (items l.strings) l.initial.slots l.slots l.own l.j
