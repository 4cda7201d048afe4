use Rattle.std.proofs.Common.{take, List, length, ℕ}
use Rattle.octets.specs.declared.out.Out.{Out}
use Rattle.index.specs.Begun.{Meant}
use Rattle.index.specs.ItemOut.{Begins}
use Rattle.order_window.specs.declared.window.Kept.{Kept}
use Rattle.order_window.specs.Stays.{order_of, Stays}
use Rattle.own_strings.specs.declared.slots.Slot.{Slot}
use Rattle.own_strings.specs.Slots.{all_own}
use Rattle.name_strings.specs.Names.{strings_of}
use Rattle.name_strings.specs.Strings.{NameWriting}
use Rattle.name_strings.proofs.put_strings.Given as goal

-- the own strings
abbrev pub own : Kept → List Slot → List (List ℕ)
own k slots = all_own (strings_of k) slots (order_of k)

abbrev pub invariant-loop-i : goal.invariant-loop-i
invariant-loop-i l =
    let k = l.initial.kept in
    Stays k l.kept × NameWriting k.font.now k.o.f k.words.now (take 8 l.slots) l.c l.i
    × ((mid : Out) → Meant (length mid.bytes.now) l.ix (own k (take 8 l.slots)) → Begins mid l.ix (own k (take 8 l.slots)) l.initial.c l.initial.out → Begins mid l.ix (own k (take 8 l.slots)) l.c l.out)
