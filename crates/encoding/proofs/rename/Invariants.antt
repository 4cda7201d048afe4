-- The invariant: the own strings before place i are counted, and the kept glyphs from there on still come by.
use Rattle.std.specs.Prelude.{take}
use Rattle.cff.specs.Reads.{program_of}
use Rattle.order_window.specs.Stays.{kept_glyphs, Stays}
use Rattle.name_strings.specs.Names.{Naming}
use Rattle.encoding.specs.Encoded.{own_kept, Past}
use Rattle.encoding.specs.IdLaws.{Renaming}
use Rattle.encoding.proofs.rename.Given as goal

abbrev pub invariant-loop-i : goal.invariant-loop-i
invariant-loop-i l =
    let k = l.initial.kept in
    Stays k l.kept × Naming k.font.now k.o.f k.words.now (take 8 l.slots) l.own l.i
    × Renaming (program_of k.font.now k.o.f) (own_kept k) (kept_glyphs k) l.named l.table l.i × Past l.table 256 4294967296
