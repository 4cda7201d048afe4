use Rattle.std.specs.Prelude.{take}
use Rattle.order_window.specs.Stays.{Stays}
use Rattle.name_strings.specs.Names.{Naming}
use Rattle.name_strings.proofs.count_names.Given as goal

abbrev pub invariant-loop-i : goal.invariant-loop-i
invariant-loop-i l =
    let k = l.initial.kept in
    Stays k l.kept × Naming k.font.now k.o.f k.words.now (take 8 l.slots) l.all l.i
