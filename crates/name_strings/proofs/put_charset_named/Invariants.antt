use Rattle.std.proofs.Common.{take, [], length, ◌+◌, ◌∷◌, ◌≤◌}
use Rattle.octets.specs.declared.out.Out.{Out}
use Rattle.octets.specs.Out.{Writes}
use Rattle.charset.specs.CharsetBytes.{charset_bytes}
use Rattle.order_window.specs.Stays.{Stays}
use Rattle.name_strings.specs.Names.{names_for, Naming}
use Rattle.name_strings.specs.CharsetLaws.{CharsetPut}
use Rattle.name_strings.proofs.put_charset_named.Given as goal

abbrev pub invariant-loop-i : goal.invariant-loop-i
invariant-loop-i l =
    let k = l.initial.kept in
    Stays k l.kept × Naming k.font.now k.o.f k.words.now (take 8 l.slots) l.own l.i
    × ((old : Out) → Writes old (0 ∷ []) l.initial.out → old.at + length (charset_bytes (names_for k (take 8 l.slots))) ≤ length old.bytes.now
    → CharsetPut old (names_for k (take 8 l.slots)) l.out l.i)
