use Rattle.std.specs.Prelude.{take}
use Rattle.index.specs.Items.{items}
use Rattle.name_strings.specs.SlotCountLaws.{Counting}
use Rattle.name_strings.proofs.slots_own.Given as goal

abbrev pub invariant-loop-j : goal.invariant-loop-j
invariant-loop-j l = Counting (items l.slots.strings) (take 8 l.slots.slots.now) l.own l.j
