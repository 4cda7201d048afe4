use Rattle.std.specs.Prelude.{take}
use Rattle.index.specs.Items.{items}
use Rattle.name_strings.specs.Strings.{SlotWriting}
use Rattle.name_strings.proofs.begin_strings.Given as goal

abbrev pub invariant-loop-j : goal.invariant-loop-j
invariant-loop-j l = SlotWriting (items l.slots.strings) (take 8 l.slots.slots.now) l.initial.out l.ix l.out l.c l.j
