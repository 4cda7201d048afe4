use Rattle.std.proofs.Common.{take, ◌+◌, ◌≡◌}
use Rattle.index.specs.ItemOut.{Begins}
use Rattle.cff.specs.Loaded.{program}
use Rattle.private_dicts.specs.Privates.{parts_len, font_dicts_by}
use Rattle.private_dicts.proofs.put_font_dicts.Given as goal

abbrev pub invariant-loop-k : goal.invariant-loop-k
invariant-loop-k l =
    (l.place ≡ l.from + parts_len (take l.k l.parts)) × (Begins l.initial.out l.ix (font_dicts_by (program l.a.font) l.a.fds.now l.parts l.from) l.k l.out)
